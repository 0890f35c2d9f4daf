-- A view may go to another thread: what it owns names no thread.
use Rattle.std.specs.Prelude.{ℕ, zero, suc, Option, Some, None, [], ◌∷◌}
use base.Fml.{Lft, Share, flft}
use base.Fraction.{full_share}
use base.Shift.{Keyless}
use denote.RawPtr.{Ptr, block_ptr, null_ptr}
use denote.Builtin.{RawPtr}
use denote.Param.Send.{IsSend, owning_send, struct_send, sendable}
use denote.Struct.Struct.{exits_of}
use denote.Struct.Owning.{shape, fields, to}
use Rattle.std_alloc.proofs.SendSync.{quiet, seen as value_seen}
use Rattle.numbered_pool.specs.declared.answers.Answers.{Answers}
use Rattle.numbered_pool.specs.contracts.answers.Answers as answers
use Rattle.protolink_c.proofs.PoolSyncs.{answers_sync}
use Rattle.protolink_c.specs.Parted.{times, parts, halved}
use Rattle.protolink_c.specs.Seen.{Seen, seen}
use Rattle.protolink_c.specs.contracts.view.View.{the_row, the_type}

-- a token names no thread, nor do many
tokens_keyless : (n : ℕ) (κ : Lft) (q : Share) → Keyless (times n (flft κ q))
unfolding times
tokens_keyless zero κ q = tt
tokens_keyless (suc n) κ q = (tt, tokens_keyless n κ q)

parts_keyless : (round n : ℕ) → Keyless (parts round n)
unfolding parts
parts_keyless round zero = tt
parts_keyless round (suc n) = tokens_keyless (suc n) (round ∷ []) (halved 63 full_share)

seen_keyless : (p : Ptr) (s : Option (Seen Answers)) → Keyless (seen answers.the_row p s)
seen_keyless (block_ptr b o) (Some s) = (parts_keyless s.1.0 s.1.1, (value_seen answers.the_row answers_sync (block_ptr b o) s.0 (s.1.0 ∷ []), tt))
seen_keyless (block_ptr b o) None = tt
seen_keyless null_ptr (Some s) = tt
seen_keyless null_ptr None = tt

pub send : IsSend the_row
send =
    let pointer : IsSend RawPtr = search sendable in
    owning_send the_type (pointer, tt) (λ v. seen_keyless v.at v.shown)
    (λ k. quiet (to the_type) (exits_of k (fields the_type)) ((struct_send (shape the_type) (pointer, tt)).leaving k))
