-- A handle may go to another thread: what it owns names no thread.
use mir.Raw.{raw}
use base.Shift.{Keyless}
use denote.Memory.{lone}
use denote.RawPtr.{Ptr, block_ptr, null_ptr}
use denote.Builtin.{RawPtr}
use denote.Param.Send.{IsSend, Frees, owning_send, struct_send, sendable}
use denote.Struct.Struct.{exits_of}
use denote.Struct.Owning.{shape, fields, to}
use Rattle.std.specs.Prelude.{Option, Some, None}
use Rattle.std.specs.contracts.impls.GlobalAllocator.TheImpl.{ghosts}
use Rattle.std.below.std_heap.proofs.GlobalAllocator.TheSendSync as heap_sends
use Rattle.std_alloc.proofs.SendSync.{quiet, lies}
use Rattle.numbered_pool.specs.declared.answers.Answers.{Answers}
use Rattle.numbered_pool.specs.contracts.answers.Answers as answers
use Rattle.protolink_c.specs.Held.{held, heap}
use Rattle.protolink_c.proofs.PoolSends.{answers_send}
use Rattle.protolink_c.specs.contracts.handle.Handle.{the_row, the_type}

frees : Frees ghosts ghosts.dealloc_token
frees = heap_sends.the_frees

held_keyless : (p : Ptr) (shown : Option Answers) → Keyless (held answers.the_row p shown)
held_keyless (block_ptr b o) (Some x) = (lies answers.the_row answers_send (block_ptr b o) x, frees.frees heap (raw (lone (answers.the_row).mir)) (block_ptr b o))
held_keyless (block_ptr b o) None = tt
held_keyless null_ptr (Some x) = tt
held_keyless null_ptr None = tt

pub send : IsSend the_row
send =
    let pointer : IsSend RawPtr = search sendable in
    owning_send the_type (pointer, tt) (λ h. held_keyless h.at h.shown)
    (λ k. quiet (to the_type) (exits_of k (fields the_type)) ((struct_send (shape the_type) (pointer, tt)).leaving k))
