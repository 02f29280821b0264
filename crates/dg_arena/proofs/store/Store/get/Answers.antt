use Rattle.std.proofs.Common.{◌<◌, ◌/◌, sym, ◌∙◌, subst}
use Rattle.std.specs.Prelude.{IsSome}
use Rattle.dg_arena.proofs.Chunks.{chunk_within, stands_in, read_is}
use Rattle.dg_arena.proofs.store.Store.get.Goals as goal

pub index-requires : goal.index-requires
index-requires g c =
    let chunks = c.self.inside.chunks.items in
    subst (λ k. c.args.n / 1024 < k) (sym c.self.inside.chunks.ok.0) (chunk_within chunks c.args.n c.self.invariant.0 (stands_in chunks c.args.self.now c.args.n c.self.view_is c.requires))

pub get-requires : goal.get-requires
get-requires g c =
    let chunks = c.self.inside.chunks.items in
    let within = stands_in chunks c.args.self.now c.args.n c.self.view_is c.requires in
    subst IsSome (read_is chunks c.args.self.now c.args.n c.index.result.now c.self.view_is c.self.invariant.0 within c.index.ensures) c.requires

pub returns : goal.returns
returns g c =
    let chunks = c.self.inside.chunks.items in
    let within = stands_in chunks c.args.self.now c.args.n c.self.view_is c.requires in
    read_is chunks c.args.self.now c.args.n c.index.result.now c.self.view_is c.self.invariant.0 within c.index.ensures ∙ c.get.ensures
