-- What a torn write may do.
use Rattle.std.proofs.Common.{◌≡◌, inl, inr, ℕ, ◌+◌, ◌-◌, ◌≤◌, max, List, [], ◌++◌, length, take, drop, refl, sym, subst, ap, arith, ◌∙◌, append_assoc, length-append, length-drop, take-append-drop}
use Rattle.std.proofs.Math.Nat.{le_refl}
use Rattle.std.proofs.lemmas.Bool.{cases_lt}
use Rattle.std.proofs.lemmas.List.{take_at, drop_at, drop_all, drop-drop, length-take-le, append-nil, take-take}
use Rattle.dg_disk.specs.Crash.{Behind, Torn}
use Rattle.dg_disk.specs.Image.{PartWritten, put_at}

-- a write of which all came through, or nothing
pub torn_whole : (offset : ℕ) (piece bytes : List ℕ) → offset ≤ length bytes → Torn offset (length piece) bytes (put_at offset piece bytes)
torn_whole offset piece bytes fits =
    let front : length (take offset bytes) ≡ offset = length-take-le offset bytes fits in
    let behind = drop (offset + length piece) bytes in
    record {
      before = ap (take offset) (append_assoc (take offset bytes) piece behind) ∙ take_at (take offset bytes) (piece ++ behind) offset front;
      behind = drop_at (take offset bytes ++ piece) behind (offset + length piece) (omega (arith, front, length-append (take offset bytes) piece));
      kept = omega (arith, front, length-append (take offset bytes) piece, length-append (take offset bytes ++ piece) behind, length-drop (offset + length piece) bytes);
    }

pub torn_none : (offset len : ℕ) (bytes : List ℕ) → Torn offset len bytes bytes
torn_none offset len bytes = record { before = refl; behind = refl; kept = le_refl (length bytes) }

-- a write that failed, of which some bytes came through
pub torn_part : (offset len : ℕ) (piece bytes : List ℕ) → offset ≤ length bytes → length piece ≤ len → Torn offset len bytes (put_at offset piece bytes)
torn_part offset len piece bytes fits part =
    let whole = torn_whole offset piece bytes fits in
    let end = offset + length piece in
    let rest = len - length piece in
    let to : end + rest ≡ offset + len = omega (arith, part) in
    let all = put_at offset piece bytes in
    let behind : drop (end + rest) all ≡ drop (end + rest) bytes =
    sym (drop-drop rest end all) ∙ ap (λ (l : List ℕ). drop rest l) whole.behind ∙ drop-drop rest end bytes in
    record {
      before = whole.before;
      behind = subst (λ (k : ℕ). drop k all ≡ drop k bytes) to behind;
      kept = whole.kept;
    }

-- where the bytes end
pub torn_end : (offset len : ℕ) (old new : List ℕ) → Torn offset len old new → length new ≤ max (length old) (offset + len)
torn_end offset len old new torn =
    omega (arith, ap length torn.behind, length-drop (offset + len) new, length-drop (offset + len) old)

-- nothing put at an offset
pub put_nothing : (offset : ℕ) (bytes : List ℕ) → put_at offset [] bytes ≡ bytes
put_nothing offset bytes =
    let here : offset + 0 ≡ offset = omega arith in
    ap (λ (k : ℕ). take offset bytes ++ [] ++ drop k bytes) here ∙ ap (λ (l : List ℕ). l ++ drop offset bytes) (append-nil (take offset bytes)) ∙ take-append-drop offset bytes

-- nothing was written
pub none_written : (offset len : ℕ) (bytes : List ℕ) → PartWritten offset len bytes bytes
none_written offset len bytes = ([], omega arith, sym (put_nothing offset bytes))

-- a torn write leaves what one that failed may leave
pub torn_is_part : (offset len : ℕ) (old new : List ℕ) → offset ≤ length old → Torn offset len old new → PartWritten offset len old new
torn_is_part offset len old new fits torn =
    let size : length (drop offset new) ≡ length new - offset = length-drop offset new in
    elim (cases_lt (length new) (offset + len)) [
      | inl some ↦ (drop offset new, omega (arith, some, size), splits (drop offset new) [] (sym (append-nil (drop offset new))) (drop_all (offset + length (drop offset new)) old (omega (arith, size, torn.kept, fits))))
      | inr all ↦
          let long : length (take len (drop offset new)) ≡ len = length-take-le len (drop offset new) (omega (arith, all, size)) in
          (take len (drop offset new), omega (arith, long), splits (take len (drop offset new)) (drop len (drop offset new)) (sym (take-append-drop len (drop offset new))) (ap (λ (k : ℕ). drop (offset + k) old) long ∙ sym torn.behind ∙ sym (drop-drop len offset new)))
    ]
  where
    splits : (piece rest : List ℕ) → drop offset new ≡ piece ++ rest → drop (offset + length piece) old ≡ rest → new ≡ put_at offset piece old
    splits piece rest is behind =
        sym (take-append-drop offset new) ∙ (λ i. torn.before i ++ is i) ∙ sym (append_assoc (take offset old) piece rest) ∙ ap (λ (l : List ℕ). (take offset old ++ piece) ++ l) (sym behind)

-- a torn write changes nothing before its offset
pub torn_is_behind : (offset len : ℕ) (old new : List ℕ) → Torn offset len old new → Behind offset old new
torn_is_behind offset len old new torn = record { same = torn.before; kept = torn.kept }

pub behind_itself : (offset : ℕ) (bytes : List ℕ) → Behind offset bytes bytes
behind_itself offset bytes = record { same = refl; kept = le_refl (length bytes) }

pub behind_both : (p q : ℕ) (a b c : List ℕ) → p ≤ q → Behind p a b → Behind q b c → Behind p a c
behind_both p q a b c le first second = record {
  same = sym (take-take p q c le) ∙ ap (take p) second.same ∙ take-take p q b le ∙ first.same;
  kept = omega (arith, first.kept, second.kept);
}
