use Rattle.std.proofs.Common.{◌≡◌, arith, subst, sym}
use Rattle.notes.specs.Lists.{at}
use Rattle.tx_core.specs.Locks.{offsets_lock}
use Rattle.engine_parts.specs.Parts.{PartStands, IsOffsetsOf}
use Rattle.hall.specs.Calls.{view, start_of}
use Rattle.engine_parts.specs.Sessions.{IsAt}
use Rattle.engine_parts.proofs.Going.{at_on}
use Rattle.engine_parts.proofs.Placing.{is_offsets}
use Rattle.engine_parts.proofs.offsets_hold.enter_offsets.Goals as goal

pub returns-clause-at : goal.returns-clause-at
returns-clause-at g c =
    let e = c.enter-part.ensures.entered in
    let same = c.knock.ensures.same in
    let before : IsAt (start_of c.args.hall.now) (view c.knock.new.caller.pass) c.knock.new.caller.number c.knock.new.caller.session = subst (λ t. IsAt (start_of c.args.hall.now) (view t) c.knock.new.caller.number c.knock.new.caller.session) (sym c.knock.ensures.pass)
    (subst (λ n. IsAt (start_of c.args.hall.now) (view c.args.caller.now.pass) n c.knock.new.caller.session) (sym same.1) (subst (λ s. IsAt (start_of c.args.hall.now) (view c.args.caller.now.pass) c.args.caller.now.number s) (sym same.0) c.requires.ready.at)) in
    at_on (start_of c.args.hall.now) (view c.knock.new.caller.pass) (view c.enter-part.new.pass) c.knock.new.caller.number c.knock.new.caller.session before e.learns e.kept

pub returns-clause-stands : goal.returns-clause-stands
returns-clause-stands g c =
    let start = start_of c.args.hall.now in
    let es = at (view c.enter-part.new.pass).seen (offsets_lock c.args.bank) in
    let s = subst (λ z. PartStands start (offsets_lock c.args.bank) z es) c.in-Offsets.is c.enter-part.ensures.stands in
    let e = s.1 in
    let same : s.0 ≡ c.args.bank = omega arith in
    subst (λ z. IsOffsetsOf start z c.in-Offsets.store.value es) same s.2

pub unreachable-requires : goal.unreachable-requires
unreachable-requires g c =
    is_offsets (start_of c.args.hall.now) c.args.bank c.enter-part.result (at (view c.enter-part.new.pass).seen (offsets_lock c.args.bank)) c.enter-part.ensures.stands c.in_default.not-Offsets
