use Rattle.std.proofs.Common.{◌<◌, ◌/◌, Some, length, set, sym, ap, ◌∙◌, subst}
use Rattle.std.specs.List.{All}
use Rattle.std.proofs.lemmas.List.{length-set}
use Rattle.dg_arena.specs.Store.{joined}
use Rattle.dg_arena.proofs.Chunks.{IsFull, chunk_within, fits_chunk, written_is, full_set, place_set}
use Rattle.dg_arena.proofs.store.Store.write.Goals as goal

pub index_mut-chunk-requires : goal.index_mut-chunk-requires
index_mut-chunk-requires g c = subst (λ k. c.args.n / 1024 < k) (sym c.self.inside.chunks.ok.0) (chunk_within c.self.inside.chunks.items c.args.n c.self.invariant.0 (subst (λ l. c.args.n < length l) (sym c.self.view_is) c.requires))

pub write-requires : goal.write-requires
write-requires g c =
    fits_chunk c.self.inside.chunks.items c.args.n c.index_mut-chunk.result.now c.self.invariant.0 (subst (λ l. c.args.n < length l) (sym c.self.view_is) c.requires) c.index_mut-chunk.ensures.value

pub invariant_of-self : goal.invariant_of-self
invariant_of-self g c =
    let chunks = c.self.inside.chunks.items in
    let n = c.args.n in
    let full = c.self.invariant.0 in
    let within = subst (λ l. n < length l) (sym c.self.view_is) c.requires in
    let is = written_is chunks n c.index_mut-chunk.result.now c.write.new.self (Some c.args.value) full within c.index_mut-chunk.ensures.value c.write.ensures in (
      subst (All IsFull) (sym is) (full_set chunks n (Some c.args.value) full within),
      c.self.invariant.1 ∙ sym (ap (λ l. length (joined l)) is ∙ ap length (place_set chunks n (Some c.args.value) full within) ∙ length-set (joined chunks) n (Some c.args.value)),
    )

pub returns : goal.returns
returns g c =
    let chunks = c.self.inside.chunks.items in
    let n = c.args.n in
    let full = c.self.invariant.0 in
    let within = subst (λ l. n < length l) (sym c.self.view_is) c.requires in
    let is = written_is chunks n c.index_mut-chunk.result.now c.write.new.self (Some c.args.value) full within c.index_mut-chunk.ensures.value c.write.ensures in
    ap joined is ∙ place_set chunks n (Some c.args.value) full within ∙ ap (λ l. set l n (Some c.args.value)) c.self.view_is
