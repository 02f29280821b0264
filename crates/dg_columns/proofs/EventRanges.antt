-- Some of the events that can be spelled can be spelled, and the times of such events do not fall.
use Rattle.std.proofs.Common.{◌≡◌, ℕ, zero, suc, ◌≤◌, true, List, [], ◌∷◌, ◌++◌, take, drop, nat_le, refl, arith}
use Rattle.std.proofs.lemmas.Bool.{and_from, le-leb}
use Rattle.dg_graph.specs.declared.event.Event.{Event}
use Rattle.dg_graph.specs.ColumnMerge.{never_fall}
use Rattle.dg_columns.specs.Ranges.{EventsFit}

pub fit_earlier : (n s t : ℕ) (events : List Event) → s ≤ t → EventsFit n t events → EventsFit n s events
fit_earlier n s t [] le h = tt
fit_earlier n s t (e ∷ events) le h = (record { not_before = omega (arith, le, h.0.not_before); not_after = h.0.not_after; fits = h.0.fits }, h.1)

pub fit_take : (n t k : ℕ) (events : List Event) → EventsFit n t events → EventsFit n t (take k events)
fit_take n t zero events h = tt
fit_take n t (suc k) [] h = tt
fit_take n t (suc k) (e ∷ events) h = (h.0, fit_take n e.time k events h.1)

pub fit_drop : (n t k : ℕ) (events : List Event) → EventsFit n t events → EventsFit n 0 (drop k events)
fit_drop n t zero events h = fit_earlier n 0 t events (omega arith) h
fit_drop n t (suc k) [] h = tt
fit_drop n t (suc k) (e ∷ events) h = fit_drop n e.time k events h.1

pub fit_parts : (n t : ℕ) (xs ys : List Event) → EventsFit n t (xs ++ ys) → EventsFit n t xs × EventsFit n 0 ys
fit_parts n t [] ys h = (tt, fit_earlier n 0 t ys (omega arith) h)
fit_parts n t (e ∷ xs) ys h = (let rest = fit_parts n e.time xs ys h.1 in ((h.0, rest.0), rest.1))

pub no_fall : (n t : ℕ) (events : List Event) → EventsFit n t events → never_fall t events ≡ true
no_fall n t [] h = refl
no_fall n t (e ∷ events) h = and_from (nat_le t e.time) _ (le-leb t e.time h.0.not_before) (no_fall n e.time events h.1)
