-- Room for one more batch.
use Rattle.std.proofs.Common.{List, [], ◌∷◌, ◌++◌, sym, subst, append_assoc, append-nil}
use Rattle.dg_history.specs.declared.params.Params.{Params}
use Rattle.dg_history.specs.History.{Batch}
use Rattle.dg_machine.specs.declared.limits.Limits.{Limits}
use Rattle.dg_dump.specs.DumpLaws.{BatchesLeaveRoom, HaveRoom}
use Rattle.dg_dump.proofs.BatchRuns.{front_of}

room_more : (limits : Limits) (params : Params) (done batches : List Batch) (b : Batch) → HaveRoom limits (front_of params done) batches
    → HaveRoom limits (front_of params (done ++ batches)) (b ∷ []) → HaveRoom limits (front_of params done) (batches ++ b ∷ [])
room_more limits params done [] b h room = subst (λ bs. HaveRoom limits (front_of params bs) (b ∷ [])) (append-nil done) room
room_more limits params done (x ∷ batches) b h room = (
  h.0,
  h.1,
  h.2,
  room_more limits params (done ++ x ∷ []) batches b h.3
      (subst (λ bs. HaveRoom limits (front_of params bs) (b ∷ [])) (sym (append_assoc done (x ∷ []) batches)) room),
)

pub batches_leave_room : BatchesLeaveRoom
batches_leave_room limits z b two h room =
    room_more limits z.params [] z.batches b h (subst (λ f. HaveRoom limits (record { params = z.params; form = f; batches = z.batches }) (b ∷ [])) two room)
