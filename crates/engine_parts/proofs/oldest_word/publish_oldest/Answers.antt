use Rattle.std.proofs.Common.{◌≡◌, ◌+◌, ◌++◌, ◌∷◌, [], ap, arith, subst, sym, ◌∙◌}
use Rattle.hall.specs.Calls.{view, start_of}
use Rattle.notes.specs.Lists.{at}
use Rattle.tx_core.specs.Entries.{history}
use Rattle.tx_core.specs.Locks.{oldest_word, proc_lock}
use Rattle.tx_core.specs.PostsFollow.{posted_in}
use Rattle.tx_core.proofs.LastNumbers.{number_push}
use Rattle.tx_events.specs.Horizon.{oldest_id}
use Rattle.tx_events.specs.Ids.{IsXidNumber}
use Rattle.engine_parts.specs.Holds.{Publishes, post_of}
use Rattle.engine_parts.specs.Law.{MayKeep}
use Rattle.engine_parts.specs.Sessions.{IsAt, by_at}
use Rattle.engine_parts.specs.Stand.{ProcStands}
use Rattle.tx_core.specs.declared.entry.Entry.{Entry}
use Rattle.engine_parts.proofs.Publishing.{found_at, found_stands, may_publish, published_at, published_proc, publishes_found, stood_there, table_oldest, was_published, word_shows}
use Rattle.engine_parts.proofs.oldest_word.publish_oldest.Given.{Over}
use Rattle.engine_parts.proofs.oldest_word.publish_oldest.Goals as goal
use Rattle.engine_parts.proofs.oldest_word.publish_oldest.Goals.{After-post, After-read_post-shown}

-- the word was loaded: how the session stands, what the table says, and the oldest id
module _ (g : Over) (c : After-read_post-shown g) where
  word : c.args.hall.now.cells + 0 ≡ oldest_word (start_of c.args.hall.now)
  word = let laid = c.requires.laid in omega arith

  at_loaded : IsAt (start_of c.args.hall.now) (view c.read_post-shown.new.pass) c.args.caller.now.number c.args.caller.now.session
  at_loaded = found_at (start_of c.args.hall.now) (c.args.hall.now.cells + 0) (view c.args.caller.now.pass) (view c.read_post-shown.new.pass) c.read_post-shown.result c.args.caller.now.number c.args.caller.now.session c.requires.at c.requires.own.named c.requires.inside c.read_post-shown.ensures.view

  stands_loaded : ProcStands (start_of c.args.hall.now) c.args.table.now (at (view c.read_post-shown.new.pass).seen proc_lock)
  stands_loaded = found_stands (start_of c.args.hall.now) (c.args.hall.now.cells + 0) (view c.args.caller.now.pass) (view c.read_post-shown.new.pass) c.read_post-shown.result c.args.caller.now.number c.args.caller.now.session c.requires.at c.requires.own.named c.requires.inside c.read_post-shown.ensures.view c.args.table.now c.requires.stands

  number : c.number-oldest.result ≡ oldest_id (start_of c.args.hall.now).base.oldest (history (view c.read_post-shown.new.pass).seen)
  number = table_oldest (start_of c.args.hall.now) c.args.table.now (at (view c.read_post-shown.new.pass).seen proc_lock) c.number-oldest.result stands_loaded (c.number-oldest.ensures.value ∙ c.oldest.ensures)

published : (g : Over) (c : After-post g) → Publishes (start_of c.args.hall.now) (by_at c.args.caller.now.number c.args.caller.now.session.levels.commands) (view c.read_post-shown.new.pass) (view c.post.new.pass)
published g c =
    let laid = c.requires.laid in
    publishes_found (start_of c.args.hall.now) (c.args.hall.now.cells + 0) (view c.args.caller.now.pass) (view c.read_post-shown.new.pass) c.read_post-shown.result c.args.caller.now.number c.args.caller.now.session c.requires.at c.requires.own.named c.requires.inside c.read_post-shown.ensures.view
    c.args.table.now c.number-oldest.result (view c.post.new.pass) c.command_of-by.result c.post_note-entry.result.value (omega arith) c.requires.stands (c.number-oldest.ensures.value ∙ c.oldest.ensures) c.number-oldest.ensures.form c.if-shown-oldest.true c.command_of-by.ensures c.post_note-entry.ensures c.post.ensures.view

pub post-requires-clause-may : goal.post-requires-clause-may
post-requires-clause-may g c =
    let m = (goal.at.post-requires-clause-may g c).After-read_post-shown in
    let start = start_of c.args.hall.now in
    let w = view c.read_post-shown.new.pass in
    let a = at_loaded g m in
    let by = by_at c.args.caller.now.number c.args.caller.now.session.levels.commands in
    let is = number g m in
    subst (λ z. MayKeep start w.seen z c.post_note-entry.result.value) (sym (word g m))
    (may_publish start w.seen by c.post_note-entry.result.value a.kept (subst IsXidNumber is c.number-oldest.ensures.form) (c.post_note-entry.ensures ∙ (λ j. post_of (c.command_of-by.ensures j) (is j))) (a.turns (oldest_word start)))

pub post-requires-clause-number : goal.post-requires-clause-number
post-requires-clause-number g c =
    let start = start_of c.args.hall.now in
    let laid = c.requires.laid in
    let q = c.args.hall.now.cells + 0 in
    word_shows start q (at (view c.read_post-shown.new.pass).seen q ++ c.post_note-entry.result.value ∷ []) (omega arith) ∙ number_push posted_in start.base.oldest (at (view c.read_post-shown.new.pass).seen q) c.post_note-entry.result.value c.number-oldest.result (ap (λ (e : Entry). posted_in e.kind) c.post_note-entry.ensures)

pub returns-then-shown-oldest-clause-at : goal.returns-then-shown-oldest-clause-at
returns-then-shown-oldest-clause-at g c =
    published_at (start_of c.args.hall.now) (view c.read_post-shown.new.pass) (view c.post.new.pass) c.args.caller.now.number c.args.caller.now.session (at_loaded g (goal.at.returns-then-shown-oldest-clause-at g c).After-read_post-shown) (published g c)

pub returns-then-shown-oldest-clause-finds : goal.returns-then-shown-oldest-clause-finds
returns-then-shown-oldest-clause-finds g c =
    was_published (start_of c.args.hall.now) (c.args.hall.now.cells + 0) (view c.args.caller.now.pass) (view c.read_post-shown.new.pass) c.read_post-shown.result c.args.caller.now.number c.args.caller.now.session c.requires.at c.requires.own.named c.requires.inside c.read_post-shown.ensures.view (view c.post.new.pass) (published g c)

pub returns-then-shown-oldest-clause-stands : goal.returns-then-shown-oldest-clause-stands
returns-then-shown-oldest-clause-stands g c =
    let m = (goal.at.returns-then-shown-oldest-clause-stands g c).After-read_post-shown in
    subst (ProcStands (start_of c.args.hall.now) c.args.table.now)
    (sym (published_proc (start_of c.args.hall.now) (view c.read_post-shown.new.pass) (view c.post.new.pass) c.args.caller.now.number c.args.caller.now.session (at_loaded g m) (published g c)))
    (stands_loaded g m)

pub returns-else-shown-oldest-clause-at : goal.returns-else-shown-oldest-clause-at
returns-else-shown-oldest-clause-at g c = at_loaded g (goal.at.returns-else-shown-oldest-clause-at g c).After-read_post-shown

pub returns-else-shown-oldest-clause-finds : goal.returns-else-shown-oldest-clause-finds
returns-else-shown-oldest-clause-finds g c =
    let m = (goal.at.returns-else-shown-oldest-clause-finds g c).After-read_post-shown in
    let is = number g m in
    let late = c.if-shown-oldest.false in
    stood_there (start_of c.args.hall.now) (c.args.hall.now.cells + 0) (view c.args.caller.now.pass) (view c.read_post-shown.new.pass) c.read_post-shown.result c.args.caller.now.number c.args.caller.now.session c.requires.at c.requires.own.named c.requires.inside c.read_post-shown.ensures.view (word g m) (omega arith) (by_at c.args.caller.now.number c.args.caller.now.session.levels.commands)

pub returns-else-shown-oldest-clause-stands : goal.returns-else-shown-oldest-clause-stands
returns-else-shown-oldest-clause-stands g c = stands_loaded g (goal.at.returns-else-shown-oldest-clause-stands g c).After-read_post-shown
