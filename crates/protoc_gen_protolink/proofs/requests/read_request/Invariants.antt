use Rattle.std.proofs.Common.{◌≡◌, length}
use Rattle.descriptor_decoding.specs.Merging.{merged_from}
use Rattle.protoc_gen_protolink.specs.Requests.{request_in, request_merged}
use Rattle.protoc_gen_protolink.proofs.requests.read_request.Given as goal

-- what the fields that are left make of the request so far
abbrev pub invariant-loop-request : goal.invariant-loop-request
invariant-loop-request l =
    merged_from 100 request_merged (length l.bytes) l.rest l.request ≡ request_in l.bytes

abbrev pub decreases-loop-request : goal.decreases-loop-request
decreases-loop-request l = length l.rest
