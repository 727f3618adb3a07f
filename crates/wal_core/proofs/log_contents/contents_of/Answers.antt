use Rattle.std.proofs.Common.{◌≡◌, Option, Some, Ok, Err, refl, sym, ◌∙◌, subst, drop}
use Rattle.wal_core.specs.declared.refusal.LogRefusal.TheVariants.{Damaged}
use Rattle.wal_core.proofs.News.{opens_new, opens_as_bytes, last_new, last_as_bytes}
use Rattle.wal_core.specs.LastBatch.{Batch}
use Rattle.wal_core.specs.Checkpoint.{IsCheckpointIn}
use Rattle.wal_core.proofs.Starts.{once_closed_as, unwritten_once_closed, old_once_closed, old_numbers, fits_all, volume_of, bytes_from}
use Rattle.wal_records.proofs.Fields.{IsBytes}
use Rattle.disk_core.specs.Volume.{Volume}
use Rattle.wal_core.proofs.Comings.{opened_comes}
use Rattle.wal_core.proofs.log_contents.contents_of.Goals as goal

pub returns-then-is_unwritten-clause-found : goal.returns-then-is_unwritten-clause-found
returns-then-is_unwritten-clause-found c v from is =
    opens_new v c.args.extent.start c.args.bytes.now from is (c.is_unwritten.ensures.unwritten c.if-is_unwritten.true)
    ∙ (λ i. Ok (record { history = sym c.no_records.ensures.history i; gate = sym c.no_records.ensures.gate i }))

pub returns-in-Ok-clause-found : goal.returns-in-Ok-clause-found
returns-in-Ok-clause-found c v from is =
    opens_as_bytes v c.args.extent.start c.args.bytes.now from is (c.is_unwritten.ensures.written c.if-is_unwritten.false) ∙ c.in-Ok.ensures.found

pub returns-then-is_unwritten-clause-last : goal.returns-then-is_unwritten-clause-last
returns-then-is_unwritten-clause-last c v from is =
    subst (λ (o : Option Batch). IsCheckpointIn o c.no_records.result.counters c.no_records.result.checkpoint) (sym (last_new v c.args.extent.start c.args.bytes.now from is (c.is_unwritten.ensures.unwritten c.if-is_unwritten.true))) c.no_records.ensures.checkpoint

pub returns-in-Ok-clause-last : goal.returns-in-Ok-clause-last
returns-in-Ok-clause-last c v from is =
    subst (λ (o : Option Batch). IsCheckpointIn o (Some c.in-Ok.field-0.past.counters) c.in-Ok.field-0.checkpoint) (sym (last_as_bytes v c.args.extent.start c.args.bytes.now from is (c.is_unwritten.ensures.written c.if-is_unwritten.false))) c.in-Ok.ensures.last

pub returns-in-Err-clause-damaged : goal.returns-in-Err-clause-damaged
returns-in-Err-clause-damaged c v at from is e =
    let same : c.in-Err.refusal ≡ Damaged at = cc in
    opens_as_bytes v c.args.extent.start c.args.bytes.now from is (c.is_unwritten.ensures.written c.if-is_unwritten.false) ∙ c.read_batches.ensures.damaged at (c.in-Err.is ∙ (λ i. Err (same i)))

pub returns-then-is_unwritten-clause-once_closed : goal.returns-then-is_unwritten-clause-once_closed
returns-then-is_unwritten-clause-once_closed c v from is =
    once_closed_as _ _ _ v c.no_records.ensures.gate c.no_records.ensures.none.0 c.no_records.ensures.none.1
    (unwritten_once_closed v c.args.extent.start c.args.bytes.now from is (c.is_unwritten.ensures.unwritten c.if-is_unwritten.true))

pub returns-in-Ok-clause-once_closed : goal.returns-in-Ok-clause-once_closed
returns-in-Ok-clause-once_closed c v from is =
    let fit : IsBytes (drop v.start v.bytes) = subst IsBytes (sym is) (fits_all c.args.bytes.now c.is_unwritten.ensures.bytes) in
    let p = c.in-Ok.field-0.past in
    old_once_closed v (record { first = p.first; recs = p.recs; counters = p.counters }) c.in-Ok.field-0.gate fit
    (opens_as_bytes v c.args.extent.start c.args.bytes.now from is (c.is_unwritten.ensures.written c.if-is_unwritten.false) ∙ c.in-Ok.ensures.found)

pub returns-in-Ok-clause-numbers : goal.returns-in-Ok-clause-numbers
returns-in-Ok-clause-numbers c =
    let v : Volume = volume_of c.args.extent.start c.args.bytes.now in let is = bytes_from c.args.extent.start c.args.bytes.now in
    let fit : IsBytes (drop v.start v.bytes) = subst IsBytes (sym is) (fits_all c.args.bytes.now c.is_unwritten.ensures.bytes) in
    let p = c.in-Ok.field-0.past in
    old_numbers v (record { first = p.first; recs = p.recs; counters = p.counters }) c.in-Ok.field-0.gate fit
    (opens_as_bytes v c.args.extent.start c.args.bytes.now refl is (c.is_unwritten.ensures.written c.if-is_unwritten.false) ∙ c.in-Ok.ensures.found)

pub returns-in-Ok-clause-comes : goal.returns-in-Ok-clause-comes
returns-in-Ok-clause-comes c =
    let p = c.in-Ok.field-0.past in
    opened_comes c.args.extent.start c.args.bytes.now (record { first = p.first; recs = p.recs; counters = p.counters }) c.in-Ok.field-0.gate c.in-Ok.ensures.found
