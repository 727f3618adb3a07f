use Rattle.std.proofs.Common.{sym, ◌∙◌}
use Rattle.report_text.specs.Words.{name_at}
use Rattle.report_words.proofs.Places.{place_again}
use Rattle.report_read.proofs.Noting.{place_noted}
use Rattle.report_read.proofs.steps.usual_said.Goals as goal

pub returns-then-may_speak-clause-rule : goal.returns-then-may_speak-clause-rule
returns-then-may_speak-clause-rule c =
    let ns = c.args.told.now.names in
    let told = (rw c.in-Some.is at c.in_ok-said.ensures) in
    let f = told.fit in
    let s = c.in-Some.said.by.session in (
      record {
        within = f.by.session;
        noted = place_noted ns (name_at ns s) s (place_again ns s c.requires.are.distinct f.by.session);
        few = c.requires.few;
        are = c.requires.are;
      },
      f,
      c.is_next.ensures.0 c.if-is_next.true,
      sym c.may_speak.ensures ∙ c.if-may_speak.true,
    )

pub returns-then-may_speak-clause-text : goal.returns-then-may_speak-clause-text
returns-then-may_speak-clause-text c = let told = (rw c.in-Some.is at c.in_ok-said.ensures) in told.text
