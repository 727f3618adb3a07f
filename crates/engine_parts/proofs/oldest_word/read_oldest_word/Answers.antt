use Rattle.std.proofs.Common.{arith, inr, subst, sym, ◌∙◌, ◌+◌}
use Rattle.hall.specs.Calls.{view, start_of}
use Rattle.tx_core.specs.Consequences.{IsShownBehind}
use Rattle.engine_parts.specs.Sessions.{by_at}
use Rattle.engine_parts.proofs.Going.{at_on}
use Rattle.engine_parts.proofs.Publishing.{learned_adds, learned_went, loaded_kept, loaded_learns, loaded_stage, word_read}
use Rattle.engine_parts.proofs.oldest_word.read_oldest_word.Given.{Over}
use Rattle.engine_parts.proofs.oldest_word.read_oldest_word.Goals as goal
use Rattle.engine_parts.proofs.oldest_word.read_oldest_word.Goals.{After-read_post}

read : (g : Over) (c : After-read_post g) → IsShownBehind (start_of c.args.hall.now) (view c.args.caller.now.pass).seen (view c.read_post.new.pass).seen c.read_post.result
read g c =
    let laid = c.requires.laid in
    word_read (start_of c.args.hall.now) (c.args.hall.now.cells + 0) (view c.args.caller.now.pass) (view c.read_post.new.pass) c.read_post.result c.requires.own.named (omega arith) c.read_post.ensures.view

pub unreachable-requires : goal.unreachable-requires
unreachable-requires g c =
    let shown = read g (goal.at.unreachable-requires g c).After-read_post in
    c.in-None.ensures (shown.form (inr c.requires.ready.at.base.full_oldest))

pub returns-clause-ready : goal.returns-clause-ready
returns-clause-ready g c =
    let start = start_of c.args.hall.now in
    let old = c.args.caller.now in
    let q = c.args.hall.now.cells + 0 in
    let l = c.read_post.ensures.view in
    let r = c.requires.ready in
    record {
      at = at_on start (view old.pass) (view c.read_post.new.pass) old.number old.session r.at (loaded_learns start q (view old.pass) (view c.read_post.new.pass) c.read_post.result l c.requires.own.named) (loaded_kept start q (view old.pass) (view c.read_post.new.pass) c.read_post.result l);
      free = loaded_stage start q (view old.pass) (view c.read_post.new.pass) c.read_post.result l ∙ r.free;
    }

pub returns-clause-shown : goal.returns-clause-shown
returns-clause-shown g c =
    subst (IsShownBehind (start_of c.args.hall.now) (view c.args.caller.now.pass).seen (view c.read_post.new.pass).seen) (sym c.in-Some.ensures.1)
    (read g (goal.at.returns-clause-shown g c).After-read_post)

pub returns-clause-went : goal.returns-clause-went
returns-clause-went g c =
    let start = start_of c.args.hall.now in
    let old = c.args.caller.now in
    let q = c.args.hall.now.cells + 0 in
    let l = c.read_post.ensures.view in
    learned_went start (view old.pass) (view c.read_post.new.pass) old.number old.session c.requires.ready.at (loaded_learns start q (view old.pass) (view c.read_post.new.pass) c.read_post.result l c.requires.own.named) (loaded_kept start q (view old.pass) (view c.read_post.new.pass) c.read_post.result l)

pub returns-clause-adds : goal.returns-clause-adds
returns-clause-adds g c =
    let old = c.args.caller.now in
    learned_adds (view old.pass) (view c.read_post.new.pass) (by_at old.number old.session.levels.commands) c.requires.ready.at.name
    (loaded_learns (start_of c.args.hall.now) (c.args.hall.now.cells + 0) (view old.pass) (view c.read_post.new.pass) c.read_post.result c.read_post.ensures.view c.requires.own.named)
