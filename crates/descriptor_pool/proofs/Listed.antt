-- What is true of contents once their extensions are in the lists of messages: their counts, where names begin, and what is
-- listed.
use Rattle.std.proofs.Common.{◌≡◌, ℕ, drop, refl}
use Rattle.pool_types.specs.Contents.{Contents}
use Rattle.record_walk.specs.Counts.{counts_in}
use Rattle.record_walk.proofs.Counted.{counts_are}
use Rattle.reference_pass.specs.NamesBegin.{AllNamesBegin, MessageNamesBegin}
use Rattle.pool_contents.specs.Extended.{extended_by, with_extended}
use Rattle.pool_contents.proofs.Each.{all-each, length-each}

-- there are as many of each kind
pub counts-extended : (first : ℕ) (p : Contents) → counts_in (with_extended first p) ≡ counts_in p
counts-extended first p = counts_are _ _ refl (length-each (extended_by first (drop first p.extensions)) 0 p.messages) refl refl refl

-- names begin where they began
pub names-extended : (first : ℕ) (p : Contents) → AllNamesBegin p → AllNamesBegin (with_extended first p)
names-extended first p begin = record {
  messages = all-each MessageNamesBegin MessageNamesBegin (extended_by first (drop first p.extensions))
      (λ n m here. record { own = here.own; fields = here.fields; oneofs = here.oneofs }) 0 p.messages begin.messages;
  enums = begin.enums;
  services = begin.services;
  extensions = begin.extensions;
}
