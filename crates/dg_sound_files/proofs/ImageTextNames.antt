-- Names that are read of bytes stand there as they are spelled.
use Rattle.std.proofs.Common.{◌≡◌, ℕ, zero, suc, ◌+◌, ◌≤◌, Bool, true, false, cond, List, [], ◌∷◌, ◌++◌, length, take, drop, Option, Some, None, refl, sym, ap, subst, ◌∙◌, arith}
use Rattle.std.specs.Prelude.{nat_lt, option_and_then}
use Rattle.std.specs.List.{flat_map}
use Rattle.std.specs.Option.{option_map}
use Rattle.std.proofs.lemmas.Bool.{ltb-false}
use Rattle.std.proofs.lemmas.List.{take-append-drop, drop-drop, length-take, length-drop}
use Rattle.dg_graph.specs.Columns.{two}
use Rattle.dg_index.specs.FileOfHistory.{name_bytes}
use Rattle.dg_index.specs.ImageText.{two_at, name_at, names_at}
use Rattle.dg_columns.proofs.Fields.{IsBytes, Stands, stands_then}
use Rattle.dg_sound_files.proofs.ImageTextNumbers.{two_stands}

-- ---- results of tests

pub none_unless : {A : Type 0} (b : Bool) (o : Option A) (y : A) → cond b None o ≡ Some y → (b ≡ false) × (o ≡ Some y)
none_unless true o y e = absurd cc
none_unless false o y e = (refl, e)

pub then_is : {A B : Type 0} (f : A → Option B) (o : Option A) (y : B) → option_and_then f o ≡ Some y → (x : A) × (o ≡ Some x) × (f x ≡ Some y)
then_is f None y e = absurd cc
then_is f (Some x) y e = (x, refl, e)

pub map_is : {A B : Type 0} (f : A → B) (o : Option A) (y : B) → option_map f o ≡ Some y → (x : A) × (o ≡ Some x) × (f x ≡ y)
map_is f None y e = absurd cc
map_is f (Some x) y e = (x, refl, cc)

pub some_is : {A : Type 0} (x y : A) → Some x ≡ Some y → x ≡ y
some_is x y e = cc

-- ---- one name

record NameStands (bytes : List ℕ) (at : ℕ) (read : List ℕ × ℕ) : Type 0 where
  stands : Stands bytes at (name_bytes read.0) read.1
  within : read.1 ≤ length bytes

name_stands : (bytes : List ℕ) (at : ℕ) (read : List ℕ × ℕ) → IsBytes bytes → name_at bytes at ≡ Some read → NameStands bytes at read
name_stands bytes at read fits e =
    let end : ℕ = at + 2 + two_at bytes at in
    let text : List ℕ = take (two_at bytes at) (drop (at + 2) bytes) in
    let here : List ℕ × ℕ = (text, end) in
    let a = none_unless (nat_lt (length bytes) (at + 2)) (cond (nat_lt (length bytes) (at + 2 + two_at bytes at)) None (Some here)) read e in
    let b = none_unless (nat_lt (length bytes) (at + 2 + two_at bytes at)) (Some here) read a.1 in
    let long : at + 2 + two_at bytes at ≤ length bytes = ltb-false _ _ b.0 in
    let number = two_stands bytes at (at + 2) fits refl (omega (arith, long)) in
    let size : two_at bytes at ≡ length text = omega (arith, long, length-take (two_at bytes at) (drop (at + 2) bytes), length-drop (at + 2) bytes) in
    let number' : Stands bytes at (two (length text)) (at + 2) = number ∙ ap (λ n. two n ++ drop (at + 2) bytes) size in
    let rest : Stands bytes (at + 2) text end = sym (take-append-drop (two_at bytes at) (drop (at + 2) bytes)) ∙ ap (λ (l : List ℕ). text ++ l) (drop-drop (two_at bytes at) (at + 2) bytes) in
    subst (NameStands bytes at) (some_is here read b.1)
    (record { stands = stands_then bytes at (two (length text)) (at + 2) text end number' rest; within = long })

-- ---- several names

pub record NamesStand (k : ℕ) (bytes : List ℕ) (at : ℕ) (read : List (List ℕ) × ℕ) : Type 0 where
  pub stands : Stands bytes at (flat_map name_bytes read.0) read.1
  pub within : read.1 ≤ length bytes
  pub count : length read.0 ≡ k

pub names_stand : (k : ℕ) (bytes : List ℕ) (at : ℕ) (read : List (List ℕ) × ℕ) → IsBytes bytes → at ≤ length bytes → names_at k bytes at ≡ Some read → NamesStand k bytes at read
names_stand zero bytes at read fits le e =
    let none : List (List ℕ) × ℕ = ([], at) in
    subst (NamesStand 0 bytes at) (some_is none read e) (record { stands = refl; within = le; count = refl })
names_stand (suc k) bytes at read fits le e =
    let a = then_is (λ (n : List ℕ × ℕ). option_map (λ (more : List (List ℕ) × ℕ). (n.0 ∷ more.0, more.1)) (names_at k bytes n.1)) (name_at bytes at) read e in
    let n : List ℕ × ℕ = a.0 in
    let b = map_is (λ (more : List (List ℕ) × ℕ). (n.0 ∷ more.0, more.1)) (names_at k bytes n.1) read a.2 in
    let one = name_stands bytes at n fits a.1 in
    let rest = names_stand k bytes n.1 b.0 fits one.within b.1 in
    subst (NamesStand (suc k) bytes at) b.2
    (record { stands = stands_then bytes at (name_bytes n.0) n.1 (flat_map name_bytes b.0.0) b.0.1 one.stands rest.stands; within = rest.within; count = ap suc rest.count })
