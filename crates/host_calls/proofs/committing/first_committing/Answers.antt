use Rattle.std.proofs.Common.{◌≡◌, ◌<◌, ◌∙◌, Some, arith, ap, sym, subst}
use Rattle.std.proofs.lemmas.Option.{same_Some, slice_get-get_or, slice_get_within}
use Rattle.std.proofs.lemmas.Bool.{false≢true}
use Rattle.std.specs.List.{slice_get}
use mathlib.Core.Logic.{dite}
use native.Mathlib.Decide.{ℕ_discrete}
use Rattle.engine_parts.specs.declared.session.Session.{Session}
use Rattle.engine_parts.specs.Stages.{pending_in}
use Rattle.session_promise.specs.Checkpoints.{IsCommitting}
use Rattle.host_calls.proofs.committing.first_committing.Goals as goal

pub returns-then-is_committing : goal.returns-then-is_committing
returns-then-is_committing c =
    let i = c.loop-session.session-index in
    let xs = c.args.sessions.now in
    let same = c.loop-session.invariant.counted in
    let s = c.session-item.result in
    let here = slice_get-get_or xs i s c.loop-session-test.true ∙ ap Some (sym c.session-item.is) in (
      subst (λ n. IsCommitting xs n) (sym same) (s, here, c.is_committing.ensures.0 c.if-is_committing.true),
      λ n low is. c.loop-session.invariant.none n (subst (λ m. n < m) same low) is,
    )

pub loop-session-preserved : goal.loop-session-preserved
loop-session-preserved c =
    let i = c.loop-session.session-index in
    let xs = c.args.sessions.now in
    let same = c.loop-session.invariant.counted in
    let s = c.session-item.result in
    let here = slice_get-get_or xs i s c.loop-session-test.true ∙ ap Some (sym c.session-item.is) in
    record {
      counted = omega (arith, same);
      none = λ k low is. dite (ℕ_discrete k i)
          (λ (q : k ≡ i).
          let t : Session = is.0 in
          let one : t ≡ s = same_Some t s (sym is.1 ∙ (ap (slice_get xs) q ∙ here)) in
          false≢true (sym c.if-is_committing.false ∙ c.is_committing.ensures.1 (ap (λ (z : Session). pending_in z.stage) (sym one) ∙ is.2)))
          (λ apart. c.loop-session.invariant.none k (omega (arith, low, apart)) is);
    }

pub returns : goal.returns
returns c n is =
    let within = slice_get_within c.args.sessions.now n is.0 is.1 in
    let past = c.loop-session-test.false in
    c.loop-session.invariant.none n (omega (arith, within, past)) is
