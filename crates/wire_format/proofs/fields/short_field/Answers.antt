use Rattle.wire_format.proofs.Short.{field_of_number, field_of_bytes}
use Rattle.wire_format.proofs.fields.short_field.Goals as goal

pub returns-in-0-clause-first : goal.returns-in-0-clause-first
returns-in-0-clause-first c =
    λ levels. rw (c.from-number.ensures, c.from.ensures)
    (field_of_number levels _ _ c.in-len2-up.len_at_least c.if-tag-lt8.false c.if-tag-ge128.false c.if-size-ge128.false c.in-0.is)

pub returns-in-2-clause-first : goal.returns-in-2-clause-first
returns-in-2-clause-first c =
    let inside = rw c.from-len.ensures at c.if-len-rest.true in
    λ levels. rw (c.from-number.ensures, c.saturating_sub.ensures, c.split_at.ensures.front, c.split_at.ensures.back, c.from-len.ensures)
    (field_of_bytes levels _ _ c.in-len2-up.len_at_least c.if-tag-lt8.false c.if-tag-ge128.false c.if-size-ge128.false c.in-2.is inside)
