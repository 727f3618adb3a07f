use Rattle.std.proofs.Common.{◌≡◌, None, Some, sym, ◌∙◌, ap, cond, subst}
use Rattle.std.specs.Prelude.{IfSome}
use Rattle.tx_events.proofs.Membership.{Has, has_contains}
use Rattle.tx_events.specs.Events.{same_name}
use Rattle.tx_events.specs.Horizon.{LiveSnap}
use Rattle.proc_table.specs.Lives.{live_xmin, xmin_under}
use Rattle.proc_table.proofs.LiveLemmas.{live_some}
use Rattle.proc_table.proofs.LiveSteps.{kept_at, kept_after, holds_less}
use Rattle.proc_table.proofs.live.LiveSnapshots.take_out.Goals as goal

pub returns-in-None-clause-none : goal.returns-in-None-clause-none
returns-in-None-clause-none c =
    λ _ ss h.
    sym (h.names c.args.session c.args.name.now)
    ∙ kept_at c.args.self.now.sessions.items c.args.session c.index_mut.result.now c.args.name.now c.requires.within
    ∙ ap (xmin_under c.args.name.now) (sym c.index_mut.ensures.value)
    ∙ sym c.in-None.ensures.xmin

pub returns-in-Some-clause-left : goal.returns-in-Some-clause-left
returns-in-Some-clause-left c = λ _ ss h.
    let r : LiveSnap = record { session = c.args.session; name = c.args.name.now; xmin = c.in-Some.xmin } in
    let found : live_xmin c.args.session c.args.name.now ss ≡ Some c.in-Some.xmin =
    sym (h.names c.args.session c.args.name.now)
    ∙ kept_at c.args.self.now.sessions.items c.args.session c.index_mut.result.now c.args.name.now c.requires.within
    ∙ ap (xmin_under c.args.name.now) (sym c.index_mut.ensures.value)
    ∙ sym c.in-Some.ensures.xmin in
    let here : Has ss r =
    subst (λ o. IfSome o (λ x. Has ss (record { session = c.args.session; name = c.args.name.now; xmin = x }))) found (live_some ss c.args.session c.args.name.now) in
    holds_less ss c.args.self.now _ r h (has_contains ss r here)
    (kept_after c.args.self.now.sessions.items c.args.session c.index_mut.result.now c.take.new.self c.args.name.now None c.requires.within
    (λ ns. c.in-Some.ensures.left ns ∙ ap (λ m. cond (same_name c.args.name.now ns) None (xmin_under ns m)) c.index_mut.ensures.value))
    c.count_less.ensures
