-- What a round did makes the promises of all sessions go on.
use Rattle.std.proofs.Common.{Bool, Contains, IsTrue, List, Some, [], ap, arith, eqb-true, false, get_or, length, map, None, refl, subst, suc, sym, true, zero, ℕ, ⊎_elim, ◌++◌, ◌<◌, ◌==◌, ◌≡◌, ◌≤◌, ◌∙◌, ◌∷◌}
use Rattle.std.specs.List.{AllByRecursion, flat_map, slice_get}
use Rattle.std.proofs.lemmas.List.Elements.{recursion_from_All}
use Rattle.std.proofs.lemmas.Option.{get_or_from_slice_get, slice_get-get_or, slice_get_past, slice_get_within}
use Rattle.disk_core.specs.declared.log_disk.LogDisk as logs
use Rattle.disk_core.specs.declared.page_disk.PageDisk as disks
use Rattle.hall.specs.declared.hall.Hall.{Hall}
use Rattle.hall.specs.Calls.{start_of, view}
use Rattle.hall.specs.Told.{asking, given}
use Rattle.notes.specs.Lists.{Knows}
use Rattle.run_law.specs.Turns as runnable
use Rattle.run_law.specs.Turns.{turns_in}
use Rattle.session_lang.specs.declared.script.Item.{Item}
use Rattle.session_lang.specs.declared.script.Item.TheVariants as items
use Rattle.session_lang.specs.Rounds.{turns_of}
use Rattle.tx_events.specs.declared.event.By.{By}
use Rattle.tx_events.specs.Places.{first_seen}
use Rattle.tx_events.proofs.ListSteps.{le_or_over}
use Rattle.tx_events.proofs.Membership.{Has, contains_has, has_any, has_contains, has_map, has_place}
use Rattle.tx_model.specs.declared.command.Command.{Command}
use Rattle.tx_model.specs.declared.reply.Reply.{Reply}
use Rattle.tx_model.specs.declared.reply.Reply.TheVariants as replies
use Rattle.tx_model.specs.declared.report.Line.{Line}
use Rattle.tx_model.specs.Lines.{turn_of}
use Rattle.life_law.specs.Replies.{is_told_verdict}
use Rattle.tx_core.specs.declared.entry.Entry.{Entry}
use Rattle.tx_core.specs.declared.entry.Start.{Start}
use Rattle.tx_core.specs.Entries.{session_of}
use Rattle.engine_parts.specs.declared.part.Part.{Part}
use Rattle.engine_parts.specs.declared.session.Caller.{Caller}
use Rattle.engine_parts.specs.declared.session.Session.{Session}
use Rattle.engine_parts.specs.declared.session.Stage.TheVariants as stages
use Rattle.engine_parts.specs.Answers.{Acted}
use Rattle.engine_parts.specs.Calls.{next_command}
use Rattle.engine_parts.specs.Makings.{KeepsMaking, has_more_multis}
use Rattle.engine_parts.specs.Sessions.{MayCall, by_at, stance_of}
use Rattle.engine_host.specs.declared.host.Host.{Host}
use Rattle.session_levels.specs.Stands.{IsFresh}
use Rattle.session_promise.specs.Promise.{Answered, HasTrimmed, IsMadeFor, IsRaisedAsTold, IsToAsker}
use Rattle.session_promise.specs.Rounds.{IsPartOf, RoundPart, lines_of_parts, sessions_of}
use Rattle.session_promise.specs.SoFar as so_far
use Rattle.session_promise.specs.SoFar.{AnsweredLines, round_of}
use Rattle.session_promise.proofs.CheckpointsStay.{checkpoints_stay_round}
use Rattle.session_promise.proofs.Parting.{parts_make_round}
use Rattle.session_promise.proofs.Rounding.{so_far_begins, so_far_ends, so_far_goes_on}
use Rattle.session_run.proofs.Telling.{made_told, members_told, raised_told}
use Rattle.session_run.specs.Rounds.{TookPart, WentRound, is_among}
use Rattle.session_run.specs.Turns.{RanLine, RanLines}
use Rattle.session_run.specs.GoesOn.{AreHome, LifeBegins, LifeEnds, LifeGoesOn}

-- ---- lists

all_mapped : {A B : Type 0} (P : B → Type 0) (f : A → B) (xs : List A) → ((i : ℕ) (x : A) → slice_get xs i ≡ Some x → P (f x)) → AllByRecursion P (map f xs)
all_mapped P f [] g = tt
all_mapped P f (x ∷ xs) g = (g 0 x refl, all_mapped P f xs (λ i y e. g (suc i) y e))

there : {A : Type 0} (xs : List A) (n : ℕ) → n < length xs → (x : A) × (slice_get xs n ≡ Some x)
there [] n l = absurd (omega (arith, l))
there (x ∷ xs) zero l = (x, refl)
there (x ∷ xs) (suc n) l = there xs n (omega (arith, l))

-- ---- parts

abbrev part_of : ℕ × List Line → RoundPart
part_of t = record { session = t.0; lines = t.1 }

parts_sessions : (told : List (ℕ × List Line)) → sessions_of (map part_of told) ≡ map (λ t. t.0) told
parts_sessions [] = refl
parts_sessions (t ∷ told) = ap (λ ns. t.0 ∷ ns) (parts_sessions told)

parts_lines : (told : List (ℕ × List Line)) → flat_map (λ t. t.1) told ≡ lines_of_parts (map part_of told)
parts_lines [] = refl
parts_lines (t ∷ told) = ap (λ ls. t.1 ++ ls) (parts_lines told)

-- none of these numbers
not_among : (numbers : List ℕ) (n : ℕ) → (Contains numbers n → ⊥) → is_among numbers n ≡ false
not_among numbers n none = step (is_among numbers n) refl
  where
    step : (b : Bool) → is_among numbers n ≡ b → b ≡ false
    step true q = let f = has_any (λ k. k == n) numbers q in absurd (none (has_contains numbers n (subst (λ z. Has numbers z) (eqb-true f.0 n f.2) f.1)))
    step false q = refl

-- a round that no session may take part in has no commands
no_turns : (round : List Item) → AllByRecursion (runnable.MayRun 0) round → turns_in round ≡ []
no_turns [] a = refl
no_turns (items.Run session command ∷ round) a = let low = a.0.1 in absurd (omega (arith, low))
no_turns (items.Round ∷ round) a = no_turns round a.1
no_turns (items.Checkpoint ∷ round) a = no_turns round a.1
no_turns (items.Dump what at size ∷ round) a = no_turns round a.1
no_turns (item ∷ round) a = absurd a.0

-- ---- sessions

module _ {H L P : Type 0} {l : logs.Ghosts L} {p : disks.Ghosts P} (hall : Hall H (Part L P l p) Entry Start) where
  abbrev start : Start
  start = start_of hall

  to_asker : (command : Command) (reply : Reply) → ((verdict : Bool) → reply ≡ replies.Seen verdict → IsTrue (is_told_verdict command)) → IsToAsker command reply
  to_asker command (replies.Seen visible) f = f visible refl
  to_asker command reply f = tt

  -- the session's next command, and what it was answered
  answered : (n : ℕ) (old new : Caller L P l p) (line : Line) → old.number ≡ n → MayCall start (view old.pass) n old.session → RanLine hall old new line
      → Answered (p.tells) start (view old.pass) (view new.pass) n line.command line.reply old.session new.session
  answered n old new line number might r = record {
    might = might;
    may = subst (λ z. MayCall start (view new.pass) z new.session) (r.ran.count.1 ∙ number) r.ran.may;
    acted = subst (λ (b : By). Acted (p.tells) start b (stance_of old.session) (stance_of new.session) old.session.stage line.command line.reply (view old.pass).seen (view new.pass).seen) (λ j. by_at (number j) (next_command old)) r.ran.acted;
    stage = r.ran.stage;
    making = subst (λ (z : ℕ). KeepsMaking line.command line.reply (has_more_multis z (view old.pass).seen (view new.pass).seen) old.session.making new.session.making) number r.ran.making;
    members = members_told p.tells start (view old.pass).seen (view new.pass).seen (by_at old.number (next_command old)) (stance_of old.session) old.session.stage line.command line.reply r.ran.acted.allowed (λ pairs is. (r.made pairs is).0);
    made = subst (λ (z : ℕ). IsMadeFor start (view new.pass).seen z line.reply) number
        (made_told p.tells start (view old.pass).seen (view new.pass).seen (by_at old.number (next_command old)) (stance_of old.session) old.session.stage line.command line.reply old.number r.ran.acted.allowed (λ pairs is. (r.made pairs is).1));
    trimmed = λ is done. subst (λ (b : By). HasTrimmed start (view new.pass).seen b) (λ j. by_at (number j) (next_command old)) (r.trimmed is done);
    raised = subst (λ (b : By). IsRaisedAsTold p.tells start (view new.pass).seen b line.command line.reply) (λ j. by_at (number j) (next_command old))
        (raised_told p.tells start (view new.pass).seen (by_at old.number (next_command old)) line.command line.reply r.raised);
    fits = to_asker line.command line.reply r.verdict;
    count = r.ran.count.0;
  }

  answered_lines : (n : ℕ) (lines : List Line) (old new : Caller L P l p) → old.number ≡ n → MayCall start (view old.pass) n old.session → RanLines hall old new lines
      → AnsweredLines (p.tells) start (view old.pass) (view new.pass) n old.session new.session lines
  answered_lines n [] old new number might same = (ap (λ (c : Caller L P l p). (view c.pass).seen) same, ap (λ (c : Caller L P l p). c.session) same)
  answered_lines n (line ∷ lines) old new number might r =
      let next : Caller L P l p = r.0 in
      let a = answered n old next line number might r.1 in
      (view next.pass, next.session, r.1.by ∙ (λ j. by_at (number j) (next_command old)), a, answered_lines n lines next new (r.1.ran.count.1 ∙ number) a.may r.2)

  took_part : (before after : Host L P l p) (n : ℕ) (old new : Session) (lines : List Line) → TookPart hall before after n old new lines → so_far.TookPart (p.tells) start (view before.pass).seen (view after.pass).seen n old new lines
  took_part before after n old new lines t = record {
    first = view t.first.pass;
    last = view t.last.pass;
    told = t.told;
    ran = subst (λ (x : Session × Session). AnsweredLines (p.tells) start (view t.first.pass) (view t.last.pass) n x.0 x.1 lines) (λ j. (t.was j, t.is j))
        (answered_lines n lines t.first t.last t.number (subst (λ (s : Session). MayCall start (view t.first.pass) n s) (sym t.was) t.might) t.ran);
    known = t.known;
  }

  -- the session that stands at a place
  parked_at : (host : Host L P l p) (sessions : List Session) (n : ℕ) (s : Session) → AreHome hall host sessions → slice_get sessions n ≡ Some s → MayCall start (given (asking n (view host.pass))) n s
  parked_at host sessions n s home e =
      subst (λ (x : Session). MayCall start (given (asking n (view host.pass))) n x) (get_or_from_slice_get sessions n s s e) (home.parked n s (slice_get_within sessions n s e)).may

  sessions_count : (host : Host L P l p) (sessions : List Session) → AreHome hall host sessions → length sessions ≡ start.sessions
  sessions_count host sessions home = home.count ∙ sym home.is_host.sessions

  -- ---- a round

  module _ (before after : Host L P l p) (old new : List Session) (round : List Item) (lines : List Line)
      (home : AreHome hall before old) (then : AreHome hall after new) (same_count : length new ≡ length old) (may : AllByRecursion (runnable.MayRun (length old)) round) (w : WentRound hall (turns_in round) before after old new lines) where
    abbrev parts : List RoundPart
    parts = map part_of w.told

    took_at : (i : ℕ) (d : Session) (t : ℕ × List Line) → slice_get w.told i ≡ Some t → TookPart hall before after t.0 (get_or old t.0 d) (get_or new t.0 d) t.1
    took_at i d t e =
        subst (λ (x : ℕ × List Line). TookPart hall before after x.0 (get_or old x.0 d) (get_or new x.0 d) x.1) (get_or_from_slice_get w.told i t t e) (w.part i d t (slice_get_within w.told i t e))

    parts_known : AllByRecursion (λ q. q.session < start.sessions) parts
    parts_known = by_old old refl
      where
        none_told : (told : List (ℕ × List Line)) → map (λ t. t.0) told ≡ [] → AllByRecursion (λ q. q.session < start.sessions) (map part_of told)
        none_told [] e = tt
        none_told (t ∷ told) e = absurd cc

        by_old : (rs : List Session) → old ≡ rs → AllByRecursion (λ q. q.session < start.sessions) parts
        by_old [] q = none_told w.told (w.order ∙ ap (λ (ts : List (ℕ × Command)). first_seen (map (λ t. t.0) ts)) (no_turns round (subst (λ z. AllByRecursion (runnable.MayRun z) round) (ap length q) may)))
        by_old (d ∷ rs) q = all_mapped (λ (q : RoundPart). q.session < start.sessions) part_of w.told (λ i t e. (took_at i d t e).might.ready.at.known)

    went : so_far.WentRound (p.tells) start (view before.pass).seen (view after.pass).seen old new (turns_in round) parts
    went = record {
      parts_of = record {
        order = parts_sessions w.told ∙ w.order;
        each = all_mapped (IsPartOf (turns_in round)) part_of w.told (λ i t e. subst (λ (x : ℕ × List Line). map turn_of x.1 ≡ turns_of x.0 (turns_in round)) (get_or_from_slice_get w.told i t t e) (w.commands i t (slice_get_within w.told i t e)));
      };
      known = parts_known;
      took = λ q s s' c at_old at_new. took q s s' c at_old at_new;
      same = same;
      idle = λ n low none. w.idle n (let k = home.count in let m = home.is_host.sessions in omega (arith, low, k, m)) (apart n none);
      hosts = subst (λ n. Knows session_of n (view before.pass).seen (view after.pass).seen) (sym home.is_host.sessions) w.hosts;
      grows = w.grows;
      count = same_count;
      kept = λ n low.
          let s = there new n (let k = sessions_count after new then in omega (arith, low, k)) in
          (parked_at after new n s.0 then s.1).ready.at.kept;
    }
      where
        apart : (n : ℕ) → (Contains (sessions_of parts) n → ⊥) → is_among (map (λ t. t.0) w.told) n ≡ false
        apart n none = not_among (map (λ t. t.0) w.told) n (λ c. none (subst (λ (ns : List ℕ). Contains ns n) (sym (parts_sessions w.told)) c))

        took : (q : RoundPart) (s s' : Session) → Contains parts q → slice_get old q.session ≡ Some s → slice_get new q.session ≡ Some s' → so_far.TookPart (p.tells) start (view before.pass).seen (view after.pass).seen q.session s s' q.lines
        took q s s' c at_old at_new =
            let m = has_map part_of w.told q (contains_has parts q c) in
            let i = has_place w.told m.0 m.1 in
            let t = took_part before after m.0.0 (get_or old m.0.0 s) (get_or new m.0.0 s) m.0.1 (took_at i.0 s m.0 i.1) in
            let was : get_or old q.session s ≡ s = get_or_from_slice_get old q.session s s at_old in
            let is : get_or new q.session s ≡ s' = get_or_from_slice_get new q.session s' s at_new in
            subst (λ (x : Session × Session). so_far.TookPart (p.tells) start (view before.pass).seen (view after.pass).seen q.session x.0 x.1 q.lines) (λ j. (was j, is j))
            (subst (λ (x : RoundPart). so_far.TookPart (p.tells) start (view before.pass).seen (view after.pass).seen x.session (get_or old x.session s) (get_or new x.session s) x.lines) m.2 t)

        same : (n : ℕ) → (Contains (sessions_of parts) n → ⊥) → slice_get new n ≡ slice_get old n
        same n none = ⊎_elim
            (λ (past : length old ≤ n). slice_get_past new n (omega (arith, past, same_count)) ∙ sym (slice_get_past old n past))
            (λ (low : n < length old).
            let x = there old n low in
            let now : slice_get new n ≡ Some (get_or new n x.0) = slice_get-get_or new n x.0 (omega (arith, low, same_count)) in
            let is : get_or new n x.0 ≡ x.0 = w.same n x.0 (apart n none) ∙ get_or_from_slice_get old n x.0 x.0 x.1 in
            now ∙ (ap (λ (s : Session). Some s) is ∙ sym x.1))
            (le_or_over (length old) n)

-- ---- the laws

module _ {H L P : Type 0} {l : logs.Ghosts L} {p : disks.Ghosts P} where
  pub life_begins : (hall : Hall H (Part L P l p) Entry Start) → LifeBegins hall
  life_begins hall host sessions home unseen new = record {
    home = home;
    so_far = so_far_begins (p.tells) (start_of hall) (view host.pass).seen sessions unseen (sessions_count hall host sessions home) (λ n s e.
        let is : get_or sessions n s ≡ s = get_or_from_slice_get sessions n s s e in
        let k = new n s (slice_get_within sessions n s e) in
        subst (λ (x : Session). IsFresh x.levels × (x.stage ≡ stages.Clear) × (x.making ≡ None)) is (k.0, k.1, k.3));
  }

  pub life_goes_on : (hall : Hall H (Part L P l p) Entry Start) → LifeGoesOn hall
  life_goes_on hall before after old new rounds round lines on then count may w =
      let all = recursion_from_All (runnable.MayRun (length old)) round may in
      let done = went hall before after old new round lines on.home then count all w in
      let ps : List RoundPart = map part_of w.told in
      record {
        round = round_of (view before.pass).seen (view after.pass).seen ps;
        told = (parts_make_round (turns_in round) ps done.parts_of).told;
        then = record { home = then; so_far = so_far_goes_on (p.tells) (start_of hall) (view before.pass).seen (view after.pass).seen old new (turns_in round) ps rounds on.so_far done };
        lines_are = w.lines_are ∙ parts_lines w.told;
        checkpoints = λ told number. checkpoints_stay_round (p.tells) (start_of hall) (view before.pass).seen (view after.pass).seen old new (turns_in round) ps rounds told number (lines_of_parts ps) on.so_far done;
      }

  pub life_ends : (hall : Hall H (Part L P l p) Entry Start) → LifeEnds hall
  life_ends hall host sessions rounds on kept =
      so_far_ends (p.tells) (start_of hall) (view host.pass).seen sessions rounds on.so_far kept
      (λ n s e. record { pass = given (asking n (view host.pass)); seen = refl; may = parked_at hall host sessions n s on.home e })
