use Rattle.std.proofs.Common.{[], arith, inl, length, refl, subst, sym, ◌+◌, ◌∷◌, ◌≡◌, ◌≤◌}
use Rattle.std.specs.List.{filter_map}
use Rattle.hall.specs.Calls.{view, start_of}
use Rattle.bank_stores.specs.declared.slot.Slot.{Slot}
use Rattle.engine_parts.specs.Adding.{IsPlain}
use Rattle.engine_parts.specs.Sessions.{by_at}
use Rattle.engine_parts.proofs.Adding.{adds_nothing}
use Rattle.engine_parts.proofs.Stepping.{went_nowhere}
use Rattle.xact_reads.specs.Multis.{IsStoredIn, JudgesSlot, pair_in}
use Rattle.xact_reads.proofs.Aparting.{met_wider}
use Rattle.xact_reads.proofs.Asking.{stored_here}
use Rattle.xact_reads.proofs.judges.judge_slot.Goals as goal

pub returns-in-Ok-clause-said : goal.returns-in-Ok-clause-said
returns-in-Ok-clause-said g c told few room k named =
    let start = start_of c.args.hall.now in
    let w = (view c.judge.new.caller.pass).seen in
    let fits : length c.args.into.now.items + 1 ≤ 64 = subst (λ (s : Slot). length c.args.into.now.items + length (filter_map pair_in (s ∷ [])) ≤ 64) c.in-Is.is room in
    subst (λ (s : Slot). JudgesSlot start w k (pair_in s) c.args.into.now.items c.add_verdict.new.into.items) (sym c.in-Is.is)
    (c.in-Ok.verdict, c.add_verdict.ensures.pushed (omega (arith, fits)), c.in-Ok.ensures.said told few k named)

pub returns-in-Ok-clause-ranges : goal.returns-in-Ok-clause-ranges
returns-in-Ok-clause-ranges g c told = c.add_verdict.ensures.ranges told c.in-Ok.ensures.ranges

pub returns-in-Unused : goal.returns-in-Unused
returns-in-Unused g c =
    let old = c.args.caller.now in
    let v = (view old.pass).seen in
    record {
      own = c.requires.own;
      ready = c.requires.ready;
      went = went_nowhere old.number v;
      apart = inl refl;
      adds = adds_nothing (by_at old.number old.session.levels.commands) IsPlain v;
      said = λ told few room k named. subst (λ (s : Slot). JudgesSlot (start_of c.args.hall.now) v k (pair_in s) c.args.into.now.items c.args.into.now.items) (sym c.in-Unused.is) refl;
      ranges = λ told. told;
      room = refl;
      fault = tt;
      same = (refl, refl);
    }

pub returns-in-Odd : goal.returns-in-Odd
returns-in-Odd g c =
    let old = c.args.caller.now in
    let v = (view old.pass).seen in
    record {
      own = c.requires.own;
      ready = c.requires.ready;
      went = went_nowhere old.number v;
      apart = inl refl;
      adds = adds_nothing (by_at old.number old.session.levels.commands) IsPlain v;
      said = λ told few room k named. subst (λ (s : Slot). JudgesSlot (start_of c.args.hall.now) v k (pair_in s) c.args.into.now.items c.args.into.now.items) (sym c.in-Odd.is) refl;
      ranges = λ told. told;
      room = refl;
      fault = tt;
      same = (refl, refl);
    }

pub returns-in-Ok-clause-apart : goal.returns-in-Ok-clause-apart
returns-in-Ok-clause-apart g c =
    let old = c.args.caller.now in
    met_wider (start_of c.args.hall.now) (by_at old.number old.session.levels.commands) old.session.levels c.args.name.now (λ z. z ≡ c.in-Is.x.number) (IsStoredIn (c.args.slot ∷ [])) (view old.pass).seen (view c.judge.new.caller.pass).seen
    (stored_here c.args.slot c.in-Is.x c.in-Is.mode c.in-Is.is) c.in-Ok.ensures.apart

pub returns-in-Err-clause-apart : goal.returns-in-Err-clause-apart
returns-in-Err-clause-apart g c =
    let old = c.args.caller.now in
    met_wider (start_of c.args.hall.now) (by_at old.number old.session.levels.commands) old.session.levels c.args.name.now (λ z. z ≡ c.in-Is.x.number) (IsStoredIn (c.args.slot ∷ [])) (view old.pass).seen (view c.judge.new.caller.pass).seen
    (stored_here c.args.slot c.in-Is.x c.in-Is.mode c.in-Is.is) c.in-Err.ensures.apart
