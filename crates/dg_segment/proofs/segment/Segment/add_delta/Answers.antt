use Rattle.std.proofs.Common.{◌≡◌, ℕ, ◌+◌, ◌<◌, ◌^◌, List, [], ◌∷◌, ◌++◌, None, true, length, map, refl, sym, ap, subst, arith, length-append}
use Rattle.std.proofs.lemmas.List.{map-append}
use Rattle.dg_index.specs.FileOfHistory.{Segment, bytes_of, segment_bytes}
use Rattle.dg_index.specs.OpenedIndex.{AreUnheard, record_row}
use Rattle.dg_segment.specs.PackedRecords.{StoredRecord, stored_row}
use Rattle.dg_segment.specs.SegmentParts.{delta_of, segment_in}
use Rattle.dg_segment.specs.declared.segment.Segment.TheInside.{Inside}
use Rattle.dg_segment.proofs.SegmentPartSizes.{rows_more, small_more, unheard_more}
use Rattle.dg_segment.proofs.segment.Segment.add_delta.Goals as goal

pub invariant_of-self-2 : goal.invariant_of-self-2
invariant_of-self-2 c =
    let s : Inside = c.self.inside in
    let a : List ℕ = c.args.structure.now in
    let b : List ℕ = c.args.node_attrs.now in
    let d : List ℕ = c.args.edge_attrs.now in
    let r : StoredRecord = record { ends = None; columns = record { structure = a; node_attrs = b; edge_attrs = d; transient = [] } } in
    let t : Inside = record { events = s.events; first = s.first; last = s.last; names = s.names; lists = s.lists; deltas = c.push.new.self; piece = s.piece } in
    let is : c.push.new.self ≡ s.deltas ++ r ∷ [] = c.in_ok-push.ensures.ok in
    let less : length (segment_bytes true c.args.self.now) + 1 + c.record_size.result < 2 ^ 63 = c.fits.ensures.0 c.if-not-fits.false in
    let here : length (segment_bytes true (segment_in s)) ≡ length (segment_bytes true c.args.self.now) = ap (λ (v : Segment). length (segment_bytes true v)) c.self.view_is in
    let size : length (bytes_of r.columns) ≡ length a + length b + length d = omega (arith, length-append a (b ++ (d ++ [])), length-append b (d ++ []), length-append d []) in
    record {
      lists = c.self.invariant.lists;
      deltas = subst (λ (l : List StoredRecord). map stored_row l ≡ map record_row (map delta_of l)) (sym is) (rows_more s.deltas r refl c.self.invariant.deltas);
      unheard = subst (λ (l : List StoredRecord). AreUnheard (map delta_of l)) (sym is)
          (subst AreUnheard (sym (map-append delta_of s.deltas (r ∷ []))) (unheard_more (map delta_of s.deltas) r.columns c.self.invariant.unheard refl));
      small = small_more s t r c.record_size.result refl refl refl is (omega (arith, c.record_size.ensures, size, less)) (omega (arith, here, less));
    }
