use Rattle.std.proofs.Common.{◌≡◌, ℕ, List, length, get_or, false, sym, ap, ◌∙◌, arith}
use Rattle.std.proofs.lemmas.List.{take_rest, take_all}
use Rattle.std.proofs.lemmas.Bool.{eqb-true, false_from_ne_true}
use Rattle.memchr.specs.Find.{NoneBefore, Nowhere, Passes, is_byte}
use Rattle.dg_io.specs.Feed.{has_feed, IsFirstFeed}
use Rattle.dg_io.proofs.FeedLemmas.{first_behind, none_behind, no_feed_below}
use Rattle.dg_io.proofs.lines.find_feed.Goals as goal

first_found : (bytes : List ℕ) (index : ℕ) → NoneBefore (Passes (is_byte 10) bytes) 0 (length bytes) index × Passes (is_byte 10) bytes index → IsFirstFeed bytes index
first_found bytes index f = record {
  within = f.0.high;
  here = eqb-true (get_or bytes index 0) 10 f.1;
  before = no_feed_below bytes index (omega (arith, f.0.high)) (λ k below. false_from_ne_true _ (f.0.before k (omega arith) below));
}

none_found : (bytes : List ℕ) → Nowhere (Passes (is_byte 10) bytes) 0 (length bytes) → has_feed bytes ≡ false
none_found bytes none =
    sym (ap has_feed (take_all (length bytes) bytes (omega arith)))
    ∙ no_feed_below bytes (length bytes) (omega arith) (λ k below. false_from_ne_true _ (none k (omega arith) below))

pub returns-in-Some : goal.returns-in-Some
returns-in-Some c =
    let bytes = c.args.held.now in
    let found = rw (take_rest bytes c.args.scanned) at c.in-Some.ensures in
    first_behind bytes c.args.scanned c.in-Some.index c.requires.within c.requires.no_feed (first_found _ _ found)

pub returns-in-None : goal.returns-in-None
returns-in-None c =
    let bytes = c.args.held.now in
    let none = rw (take_rest bytes c.args.scanned) at c.in-None.ensures in
    none_behind bytes c.args.scanned c.requires.no_feed (none_found _ none)
