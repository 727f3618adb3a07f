use Rattle.std.proofs.Common.{ℕ, ◌+◌, ◌-◌, ◌*◌, ◌≡◌, List, [], true, false, ap, arith, inl, length, refl, replicate, slice_index_or, subst, sym, ◌∙◌}
use Rattle.std.proofs.lemmas.List.{get_or-replicate, length-replicate}
use Rattle.std.specs.List.{slice_get}
use Rattle.std.specs.Prelude.{Some}
use Rattle.hall.specs.Calls.{ShownBy, StandFor}
use Rattle.hall.specs.declared.view.Opening.{Opening}
use Rattle.hall.specs.declared.view.View.{View}
use Rattle.hall.specs.declared.writer.Writer.TheVariants.{Lock}
use Rattle.notes.specs.Lists.{at}
use Rattle.tx_core.specs.declared.entry.Entry.{Entry}
use Rattle.tx_core.specs.declared.entry.Start.{Start}
use Rattle.tx_core.specs.EngineInvariant.{EngineInvariant}
use Rattle.tx_core.proofs.Opening.{opens}
use Rattle.engine_parts.specs.Law.{number_of_word, writer_of}
use Rattle.engine_parts.specs.Parts.{PartStands}
use Rattle.engine_parts.specs.Sessions.{AreGivenBefore}
use Rattle.engine_host.proofs.Parking.{new_parked}
use Rattle.engine_host.proofs.Hosting.{lock_writes, nothing_at, places_of, words_long, words_shown}
use Rattle.engine_host.proofs.host.make_table.Goals as goal

pub new-requires-clause-passes : goal.new-requires-clause-passes
new-requires-clause-passes g c = (omega arith, omega (arith, c.requires.cluster.sessions), ap (λ (o : Opening Start Entry). o.passes) c.opening_note-from.ensures ∙ ap (λ n. n + 1) c.requires.sessions)

pub new-requires-clause-sizes : goal.new-requires-clause-sizes
new-requires-clause-sizes g c =
    let long = ap length c.in-Ok.ensures ∙ words_long c.args.parts.cluster in
    (omega (arith, c.requires.count, c.requires.cluster.banks.1), omega (arith, long, c.requires.cluster.sessions))

pub new-requires-clause-places : goal.new-requires-clause-places
new-requires-clause-places g c =
    let long = ap length c.in-Ok.ensures ∙ words_long c.args.parts.cluster in
    let start = c.args.parts.start.value in
    ap (λ (o : Opening Start Entry). length o.lists) c.opening_note-from.ensures ∙ (length-replicate (places_of start) [] ∙ omega (arith, c.requires.banks, c.requires.sessions, c.requires.count, long))

pub new-requires-clause-locks : goal.new-requires-clause-locks
new-requires-clause-locks g c lock inside =
    let start = c.args.parts.start.value in
    subst (λ (s : Start). writer_of s lock ≡ Lock lock) (sym (ap (λ (o : Opening Start Entry). o.start) c.opening_note-from.ensures)) (lock_writes start lock (omega (arith, inside, c.requires.count, c.requires.banks)))

pub new-requires-clause-kept : goal.new-requires-clause-kept
new-requires-clause-kept g c =
    let start = c.args.parts.start.value in
    subst (λ (o : Opening Start Entry). EngineInvariant o.start o.lists) (sym c.opening_note-from.ensures) (opens start (replicate (places_of start) []) (nothing_at (places_of start)))

pub new-requires-clause-stand : goal.new-requires-clause-stand
new-requires-clause-stand g c =
    let start = c.args.parts.start.value in
    subst (λ (o : Opening Start Entry). StandFor PartStands o.start c.args.parts.locks.items o.lists) (sym c.opening_note-from.ensures)
    (λ lock part get. subst (λ (es : List Entry). PartStands start lock part es) (sym (nothing_at (places_of start) lock)) (c.requires.stand lock part get))

pub new-requires-clause-shown : goal.new-requires-clause-shown
new-requires-clause-shown g c =
    let start = c.args.parts.start.value in
    let cells = length c.args.parts.locks.items in
    subst (λ (o : Opening Start Entry). ShownBy number_of_word o.start cells c.in-Ok.words.items o.lists) (sym c.opening_note-from.ensures)
    (subst (λ (words : List ℕ). ShownBy number_of_word start cells words (replicate (places_of start) [])) (sym c.in-Ok.ensures)
    (words_shown c.args.parts.cluster start cells (replicate (places_of start) []) (c.requires.count ∙ omega (arith, c.requires.banks)) c.requires.base c.requires.cluster.base (nothing_at (places_of start))))

pub returns-in-Ok-new-clause-start : goal.returns-in-Ok-new-clause-start
returns-in-Ok-new-clause-start g c = c.in-Ok-new.ensures.hall.0 ∙ ap (λ (o : Opening Start Entry). o.start) c.opening_note-from.ensures

pub returns-in-Ok-new-clause-host : goal.returns-in-Ok-new-clause-host
returns-in-Ok-new-clause-host g c =
    let hall = c.in-Ok-new.ensures.hall in
    let pass = c.in-Ok-new.ensures.pass in
    let is = hall.0 ∙ ap (λ (o : Opening Start Entry). o.start) c.opening_note-from.ensures in
    let banks = ap (λ (s : Start). s.banks) is ∙ c.requires.banks in
    record {
      own = pass.0;
      free = ap (λ (v : View Start Entry). v.stage) pass.1;
      cluster = c.requires.cluster;
      start = sym is;
      laid = hall.2 ∙ (c.requires.count ∙ ap (λ n. 3 + 4 * n) (sym banks));
      banks = banks;
      sessions = ap (λ (s : Start). s.sessions) is ∙ c.requires.sessions;
      base = ap (λ (s : Start). s.base) is ∙ c.requires.base;
      before = subst AreGivenBefore (sym is) c.requires.before;
      passes = hall.1 ∙ (ap (λ (o : Opening Start Entry). o.passes) c.opening_note-from.ensures ∙ ap (λ n. n + 1) c.requires.sessions);
      name = ap (λ (v : View Start Entry). v.name) pass.1 ∙ (ap (λ (o : Opening Start Entry). o.passes - 1) c.opening_note-from.ensures ∙ omega (arith, c.requires.sessions));
    }

pub returns-in-Ok-new-clause-unseen : goal.returns-in-Ok-new-clause-unseen
returns-in-Ok-new-clause-unseen g c place =
    let start = c.args.parts.start.value in
    ap (λ (v : View Start Entry). at v.seen place) c.in-Ok-new.ensures.pass.1 ∙ (ap (λ (o : Opening Start Entry). at o.lists place) c.opening_note-from.ensures ∙ nothing_at (places_of start) place)

pub returns-in-Ok-new-clause-names : goal.returns-in-Ok-new-clause-names
returns-in-Ok-new-clause-names g c n inside =
    let start = c.args.parts.start.value in
    let passes = ap (λ (o : Opening Start Entry). o.passes) c.opening_note-from.ensures ∙ ap (λ k. k + 1) c.requires.sessions in
    inl (ap (λ (v : View Start Entry). slice_index_or v.holds n false) c.in-Ok-new.ensures.pass.1 ∙ get_or-replicate c.opening_note-from.result.value.passes n true false (omega (arith, inside, passes)))

pub returns-in-Err-new-clause-refused : goal.returns-in-Err-new-clause-refused
returns-in-Err-new-clause-refused g c =
    let same = c.in-Err-new.ensures.refused in
    let r = c.requires in
    record { cluster = r.cluster; banks = r.banks; sessions = r.sessions; base = r.base; before = r.before; count = ap length same ∙ r.count; stand = λ lock part get. r.stand lock part (subst (λ l. slice_get l lock ≡ Some part) same get) }

pub returns-in-Err-new-clause-given : goal.returns-in-Err-new-clause-given
returns-in-Err-new-clause-given g c = (refl, refl, c.in-Err-new.ensures.refused)

pub returns-in-Ok-new-clause-parked : goal.returns-in-Ok-new-clause-parked
returns-in-Ok-new-clause-parked g c n s inside new =
    let start = c.args.parts.start.value in
    let passes = ap (λ (o : Opening Start Entry). o.passes) c.opening_note-from.ensures ∙ ap (λ k. k + 1) c.requires.sessions in
    let held = ap (λ (v : View Start Entry). slice_index_or v.holds n false) c.in-Ok-new.ensures.pass.1 ∙ get_or-replicate c.opening_note-from.result.value.passes n true false (omega (arith, inside, passes)) in
    let long = ap length c.in-Ok.ensures ∙ words_long c.args.parts.cluster in
    new_parked c.in-Ok-new.hall _ n s (returns-in-Ok-new-clause-host g c) (omega (arith, c.in-Ok-new.ensures.hall.3, long)) (returns-in-Ok-new-clause-unseen g c) held inside new
