use Rattle.std.proofs.Common.{arith}
use Rattle.wal_records.proofs.ReadLemmas.{rest_within, is_found, is_only, is_none}
use Rattle.wal_records.proofs.reading.read_rec.Goals as goal

pub overflow_sub-length : goal.overflow_sub-length
overflow_sub-length c = rest_within c.args.bytes.now c.in-Ok.rec c.take_rec.new.rest.now (λ i. omega (arith, c.type_inv.bytes i)) c.in-Ok.ensures

pub returns-in-Ok-clause-found : goal.returns-in-Ok-clause-found
returns-in-Ok-clause-found c = is_found c.args.bytes.now c.in-Ok.rec c.take_rec.new.rest.now (λ i. omega (arith, c.type_inv.bytes i)) c.in-Ok.ensures

pub returns-in-Ok-clause-only : goal.returns-in-Ok-clause-only
returns-in-Ok-clause-only c = is_only c.args.bytes.now c.in-Ok.rec c.take_rec.new.rest.now c.in-Ok.ensures

pub returns-in-Err-Unlawful-clause-only : goal.returns-in-Err-Unlawful-clause-only
returns-in-Err-Unlawful-clause-only c = is_none c.args.bytes.now (rw c.in-Err-Unlawful.field-0-is at c.in-Err-Unlawful.ensures)

pub returns-in-Err-Unlawful-clause-none : goal.returns-in-Err-Unlawful-clause-none
returns-in-Err-Unlawful-clause-none c = is_none c.args.bytes.now (rw c.in-Err-Unlawful.field-0-is at c.in-Err-Unlawful.ensures)
