use Rattle.std.proofs.Common.{◌≢◌, refl, false, sym, subst, ◌∙◌}
use Rattle.tx_events.specs.declared.multi.MultiEvent.TheVariants as multis
use Rattle.multi_rules.proofs.GenPlaces.{bound_at}
use Rattle.multi_rules.proofs.Waits.{ok_at, wait_at, wait_elsewhere, wait_none, wait_unanswered}
use Rattle.multi_rules.proofs.not_yet.may_wait.Goals as goal

pub returns-then-not-oks-place : goal.returns-then-not-oks-place
returns-then-not-oks-place g c =
    let h = c.args.places.now.events in
    let only = c.in-Some.ensures.some in
    let told = ok_at g.w.ok g.w.all h c.requires.1.0 c.in-Some.place (multis.Gen only.0.0 c.args.multi only.0.1 only.0.2) c.args.oks.now false c.requires.0 c.requires.1.1 only.0.3 in (
      λ t. wait_unanswered g.w.ok c.args.from c.args.to c.args.by h c.args.multi c.in-Some.place only (sym told ∙ c.if-not-oks-place.true),
      λ w. refl,
    )

pub session_at-requires : goal.session_at-requires
session_at-requires g c = let only = c.in-Some.ensures.some in bound_at c.args.places.now.events c.in-Some.place _ only.0.3

pub returns-else-not-oks-place : goal.returns-else-not-oks-place
returns-else-not-oks-place g c =
    let h = c.args.places.now.events in
    let only = c.in-Some.ensures.some in
    let told = ok_at g.w.ok g.w.all h c.requires.1.0 c.in-Some.place (multis.Gen only.0.0 c.args.multi only.0.1 only.0.2) c.args.oks.now false c.requires.0 c.requires.1.1 only.0.3 in
    let yes = sym told ∙ c.if-not-oks-place.false in
    let s = c.session_at.ensures (multis.Gen only.0.0 c.args.multi only.0.1 only.0.2) only.0.3 in (
      λ t. let z = c.is_elsewhere.ensures.0 t in wait_elsewhere g.w.ok c.args.from c.args.to c.args.by h c.args.multi c.in-Some.place only (subst (λ n. n ≢ c.args.by.session) s z.0, z.1, z.2),
      λ w. let z = wait_at g.w.ok c.args.from c.args.to c.args.by h c.args.multi c.in-Some.place only w yes in c.is_elsewhere.ensures.1 (subst (λ n. n ≢ c.args.by.session) (sym s) z.0, z.1, z.2),
    )

pub returns-in-None : goal.returns-in-None
returns-in-None g c = (λ t. wait_none g.w.ok c.args.from c.args.to c.args.by c.args.places.now.events c.args.multi c.in-None.ensures.none, λ w. refl)
