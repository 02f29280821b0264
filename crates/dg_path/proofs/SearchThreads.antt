-- Threading the edges of each node.
use Rattle.std.proofs.Common.{◌≡◌, ℕ, ◌+◌, ◌^◌, ◌≤◌, ◌<◌, Bool, true, false, List, length, get_or, set, Some, sym, ap, subst, ◌∙◌, inl, inr, arith}
use Rattle.std.specs.Prelude.{slice_get, ◌⊎◌}
use Rattle.std.proofs.lemmas.Bool.{cases_eq}
use Rattle.std.proofs.lemmas.List.{get_or-set_same, get_or-set_other, length-set}
use Rattle.std.proofs.lemmas.Option.{same_Some, slice_get_within}
use Rattle.dg_path.specs.declared.search.Link.{Link}
use Rattle.dg_path.specs.Search.{IsLink, end_of, IsNext, AreThreaded}

-- nothing is threaded yet
pub none_threaded : (leaving : Bool) (links : List Link) (first next : List ℕ) (nodes : ℕ) → length links < 2 ^ 32 → length first ≡ nodes → length next ≡ length links
    → ((v : ℕ) → v < nodes → get_or first v 0 ≡ length links) → AreThreaded leaving links first next nodes (length links)
none_threaded leaving links first next nodes few firsts nexts past = record {
  firsts = firsts;
  nexts = nexts;
  first_is = λ v within. subst (IsNext leaving links v (length links)) (sym (past v within)) (record {
    above = omega arith;
    bound = few;
    skipped = λ i l from below there. omega arith;
    there = λ l there. absurd (let h = slice_get_within links (length links) l there in omega arith);
  });
  next_is = λ i l from there. absurd (let h = slice_get_within links i l there in omega arith);
}

-- one more link, before those that are threaded
pub one_threaded : (leaving : Bool) (links : List Link) (first next : List ℕ) (nodes i : ℕ) (link : Link) → length links < 2 ^ 32 → slice_get links i ≡ Some link → end_of leaving link < nodes
    → AreThreaded leaving links first next nodes (i + 1)
    → AreThreaded leaving links (set first (end_of leaving link) i) (set next i (get_or first (end_of leaving link) 0)) nodes i
one_threaded leaving links first next nodes i link few there within t = record {
  firsts = length-set first v i ∙ t.firsts;
  nexts = length-set next i (get_or first v 0) ∙ t.nexts;
  first_is = λ w w_in. at_first w w_in (cases_eq w v);
  next_is = λ k l from is. at_next k l from is (cases_eq k i);
}
  where
    v : ℕ
    v = end_of leaving link

    at_first : (w : ℕ) → w < nodes → (w ≡ end_of leaving link) ⊎ (w ≡ end_of leaving link → ⊥) → IsNext leaving links w i (get_or (set first (end_of leaving link) i) w 0)
    at_first w w_in (inl e) = subst (IsNext leaving links w i) (sym (ap (λ x. get_or (set first (end_of leaving link) i) x 0) e ∙ get_or-set_same first (end_of leaving link) i 0 (let h = t.firsts in omega arith)))
        (record {
          above = omega arith;
          bound = (let h = slice_get_within links i link there in omega arith);
          skipped = λ k l from below is. omega arith;
          there = λ l is. ap (end_of leaving) (same_Some _ _ (sym is ∙ there)) ∙ sym e;
        })
    at_first w w_in (inr apart) =
        let n = t.first_is w w_in in
        subst (IsNext leaving links w i) (sym (get_or-set_other first (end_of leaving link) w i 0 apart))
        (record {
          above = (let h = n.above in omega arith);
          bound = n.bound;
          skipped = λ k l from below is leaves. skip k l from below is leaves n (cases_eq k i);
          there = n.there;
        })
      where
        skip : (k : ℕ) (l : Link) → i ≤ k → k < get_or first w 0 → slice_get links k ≡ Some l → end_of leaving l ≡ w → IsNext leaving links w (i + 1) (get_or first w 0) → (k ≡ i) ⊎ (k ≡ i → ⊥) → ⊥
        skip k l from below is leaves n (inl e) = apart (sym leaves ∙ ap (end_of leaving) (same_Some _ _ (sym is ∙ (ap (slice_get links) e ∙ there))))
        skip k l from below is leaves n (inr other) = n.skipped k l (omega arith) below is leaves

    at_next : (k : ℕ) (l : Link) → i ≤ k → slice_get links k ≡ Some l → (k ≡ i) ⊎ (k ≡ i → ⊥) → IsNext leaving links (end_of leaving l) (k + 1) (get_or (set next i (get_or first (end_of leaving link) 0)) k 0)
    at_next k l from is (inl e) =
        let same : l ≡ link = same_Some _ _ (sym is ∙ (ap (slice_get links) e ∙ there)) in
        let n : IsNext leaving links (end_of leaving l) (k + 1) (get_or first (end_of leaving link) 0) =
        subst (λ (m : Link). IsNext leaving links (end_of leaving m) (k + 1) (get_or first (end_of leaving link) 0)) (sym same)
        (subst (λ x. IsNext leaving links (end_of leaving link) (x + 1) (get_or first (end_of leaving link) 0)) (sym e) (t.first_is (end_of leaving link) within)) in
        subst (IsNext leaving links (end_of leaving l) (k + 1)) (sym (ap (λ x. get_or (set next i (get_or first (end_of leaving link) 0)) x 0) e ∙ get_or-set_same next i (get_or first (end_of leaving link) 0) 0
        (let h = slice_get_within links i link there in let n = t.nexts in omega arith))) n
    at_next k l from is (inr other) =
        subst (IsNext leaving links (end_of leaving l) (k + 1)) (sym (get_or-set_other next i k (get_or first (end_of leaving link) 0) 0 other)) (t.next_is k l (omega arith) is)

pub end_within : (leaving : Bool) (nodes : ℕ) (l : Link) → IsLink nodes l → end_of leaving l < nodes
end_within true nodes l in' = in'.tail
end_within false nodes l in' = in'.head
