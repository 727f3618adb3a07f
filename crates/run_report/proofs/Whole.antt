-- The counts of a life of a generated script.
use Rattle.std.proofs.Common.{◌≡◌, ℕ, ◌+◌, ◌<◌, ◌≤◌, ◌==◌, zero, suc, Bool, true, false, cond, IsTrue, List, [], ◌∷◌, ◌++◌, Some, refl, sym, ap, subst, ◌∙◌, arith, length, map}
use Rattle.std.proofs.lemmas.List.{map-append}
use Rattle.std.proofs.lemmas.List.Elements.{filter-append, filter_map-append, recursion_from_All}
use Rattle.std.specs.List.{AllByRecursion, count_by, filter, flat_map}
use Rattle.tx_events.specs.declared.event.Event.{Event}
use Rattle.tx_events.specs.Events.{by_of, events_of, given, same_by}
use Rattle.tx_events.specs.Places.{EachPlace}
use Rattle.tx_events.proofs.ListSteps.{all_filter, both_all, eqb-refl}
use Rattle.tx_events.proofs.Membership.{all_at, all_from, filter_has, has_any}
use Rattle.tx_events.proofs.OwnEvents.{same_by_swap}
use Rattle.tx_model.specs.declared.command.Command.{Command}
use Rattle.tx_model.specs.declared.report.Line.{Line}
use Rattle.tx_model.specs.declared.report.Step.{Step}
use Rattle.tx_model.specs.declared.report.Step.TheVariants as steps
use Rattle.tx_model.specs.Lines.{has_line, is_line_of, stance, turn_of}
use Rattle.tx_model.specs.Asked as asked
use Rattle.tx_model.specs.Asked.{Asked, rounds_in}
use Rattle.tx_model.specs.Rounds.{AreSteps, lines_in}
use Rattle.life_law.specs.Commands.{makes_level}
use Rattle.life_law.specs.Facts.{Facts}
use Rattle.life_law.specs.LawfulLife.{facts_of}
use Rattle.life_law.specs.Lines.{IsLawfulRound}
use Rattle.script_lines.specs.Header.{no_header}
use Rattle.session_lang.specs.declared.script.Item.{Item}
use Rattle.session_lang.specs.declared.script.Item.TheVariants as items
use Rattle.session_lang.specs.Rounds.{asked_of, turns_of}
use Rattle.session_lang.proofs.Asking.{rounds_asked}
use Rattle.run_law.specs.Lives.{BeginsRun, RunStart}
use Rattle.run_law.specs.Turns.{turn_in, turns_in}
use Rattle.script_gen.specs.Choices.{Choices, behind_transaction, choices, drawn_from}
use Rattle.script_gen.specs.Counts as all
use Rattle.script_gen.specs.Generated.{generated, is_round_first, items_from, run_by, session_of, transaction, transaction_items}
use Rattle.run_law.proofs.Takers.{levels_take}
use Rattle.script_gen.proofs.Levels.{few_takers}
use Rattle.script_gen.proofs.Ranges.{IsDrawn, each_item}
use Rattle.run_report.specs.Counts as said
use Rattle.run_report.proofs.FewIds.{given_count, lines_few}
use Rattle.run_report.proofs.Goes.{AreOf, Outside}
use Rattle.run_report.proofs.EventKinds.{aborts_are, commits_are, ids_are, own_quiet, snaps_are, undone_are}
use Rattle.run_report.proofs.Once.{events_counted}
use Rattle.run_report.proofs.Replies.{IsWide}
use Rattle.run_report.proofs.Running.{run_from, transactions_run}
use Rattle.run_law.proofs.Lives.{one_life_told}
use Rattle.run_law.proofs.PartSums.{count_all, count_map, one, sum_same}
use Rattle.run_law.proofs.AllTurns.{Turns, all_turns, script_count, session_turns, turns_of_all}
use Rattle.run_report.proofs.Walk.{IsFine, IsGood, all_walk, by_line, commands_of}
use Rattle.run_report.proofs.Wide.{IsQuiet, wide}

-- ---- a session's commands are those of its transactions

abbrev mine : ℕ → ℕ → List Choices → List Choices
mine k i [] = []
mine k i (c ∷ drawn) = cond (session_of i == k) (c ∷ mine k (i + 1) drawn) (mine k (i + 1) drawn)

abbrev seconds : Turns → List Command
seconds turns = map (λ t. t.1) turns

run_turns : (s : ℕ) (all : List Command) → turns_in (run_by s all) ≡ map (λ c. (s, c)) all
run_turns s [] = refl
run_turns s (c ∷ all) = ap (λ ts. (s, c) ∷ ts) (run_turns s all)

round_end_turns : (b : Bool) → turns_in (cond b (items.Round ∷ []) []) ≡ []
round_end_turns true = refl
round_end_turns false = refl

transaction_turns : (i : ℕ) (c : Choices) → turns_in (transaction_items i c) ≡ map (λ command. (session_of i, command)) (transaction c)
transaction_turns i c =
    filter_map-append turn_in (cond (is_round_first i) (items.Round ∷ []) []) (run_by (session_of i) (transaction c))
    ∙ ap (λ ts. ts ++ turns_in (run_by (session_of i) (transaction c))) (round_end_turns (is_round_first i)) ∙ run_turns (session_of i) (transaction c)

own_of : (k s : ℕ) (all : List Command) (b : Bool) → (s == k) ≡ b → seconds (turns_of k (map (λ c. (s, c)) all)) ≡ cond b all []
own_of k s [] true e = refl
own_of k s [] false e = refl
own_of k s (c ∷ all) true e = rw e (ap (λ cs. c ∷ cs) (own_of k s all true e))
own_of k s (c ∷ all) false e = rw e (own_of k s all false e)

own_commands : (k i n s : ℕ) → seconds (turns_of k (turns_in (items_from i (drawn_from i n s)))) ≡ flat_map transaction (mine k i (drawn_from i n s))
own_commands k i zero s = refl
own_commands k i (suc n) s =
    let c = choices i s in
    let rest = items_from (i + 1) (drawn_from (i + 1) n (behind_transaction i s)) in
    let later = drawn_from (i + 1) n (behind_transaction i s) in
    ap (λ ts. seconds (turns_of k ts)) (filter_map-append turn_in (transaction_items i c) rest ∙ ap (λ ts. ts ++ turns_in rest) (transaction_turns i c))
    ∙ ap seconds (filter-append (λ (t : ℕ × Command). t.0 == k) (map (λ command. (session_of i, command)) (transaction c)) (turns_in rest))
    ∙ map-append (λ (t : ℕ × Command). t.1) (turns_of k (map (λ command. (session_of i, command)) (transaction c))) (turns_of k (turns_in rest))
    ∙ ap (λ cs. cs ++ seconds (turns_of k (turns_in rest))) (own_of k (session_of i) (transaction c) (session_of i == k) refl)
    ∙ ap (λ cs. cond (session_of i == k) (transaction c) [] ++ cs) (own_commands k (i + 1) n (behind_transaction i s))
    ∙ joined (session_of i == k) c (mine k (i + 1) later)
  where
    joined : (b : Bool) (c : Choices) (later : List Choices) → cond b (transaction c) [] ++ flat_map transaction later ≡ flat_map transaction (cond b (c ∷ later) later)
    joined true c later = refl
    joined false c later = refl

-- ---- what holds of the turns holds of the lines

module _ (P : ℕ × Command → Type 0) where
  front : (xs ys : Turns) → AllByRecursion P (xs ++ ys) → AllByRecursion P xs × AllByRecursion P ys
  front [] ys a = (tt, a)
  front (x ∷ xs) ys a = let i = front xs ys a.1 in ((a.0, i.0), i.1)

  blocks : (turns : Turns) (ss : List ℕ) → AllByRecursion P turns → AllByRecursion P (flat_map (λ s. turns_of s turns) ss)
  blocks turns [] a = tt
  blocks turns (s ∷ ss) a = both_all P (turns_of s turns) (flat_map (λ s. turns_of s turns) ss) (all_filter P (λ (t : ℕ × Command). t.0 == s) turns a) (blocks turns ss a)

  lines_all : (n : ℕ) (more : List Asked) (ss : List Step) → AreSteps n more ss → AllByRecursion P (turns_of_all (rounds_in more)) → AllByRecursion P (map turn_of (flat_map lines_in ss))
  lines_all n [] [] r a = tt
  lines_all n (asked.dump what at size ∷ more) (steps.Dump of from count reply ∷ ss) r a = lines_all n more ss r.3 a
  lines_all n (asked.checkpoint ∷ more) (steps.Checkpoint reply ∷ ss) r a = lines_all n more ss r a
  lines_all n (asked.round turns ∷ more) (steps.Round number lines ∷ ss) r a =
      let cut = front turns (turns_of_all (rounds_in more)) a in
      subst (AllByRecursion P) (sym (map-append turn_of lines (flat_map lines_in ss)))
      (both_all P (map turn_of lines) (map turn_of (flat_map lines_in ss)) (subst (AllByRecursion P) (sym r.1) (blocks turns _ cut.0)) (lines_all (n + 1) more ss r.2 cut.1))
  lines_all n more ss r a = absurd r

abbrev IsDrawnTurn : ℕ × Command → Type 0
IsDrawnTurn t = IsDrawn t.1

abbrev IsDrawnItem : Item → Type 0
IsDrawnItem (items.Run s c) = IsDrawn c
IsDrawnItem x = Unit {0}

turns_drawn : (script : List Item) → AllByRecursion IsDrawnItem script → AllByRecursion IsDrawnTurn (turns_in script)
turns_drawn [] a = tt
turns_drawn (items.Run s c ∷ script) a = (a.0, turns_drawn script a.1)
turns_drawn (items.Round ∷ script) a = turns_drawn script a.1
turns_drawn (items.Checkpoint ∷ script) a = turns_drawn script a.1
turns_drawn (items.Crash how ∷ script) a = turns_drawn script a.1
turns_drawn (items.Dump what at size ∷ script) a = turns_drawn script a.1

lines_fine : (lines : List Line) → AllByRecursion IsDrawnTurn (map turn_of lines) → AllByRecursion (λ l. said.is_failure l.reply ≡ false) lines → AllByRecursion IsFine lines
lines_fine [] d e = tt
lines_fine (l ∷ lines) d e = ((d.0, e.0), lines_fine lines d.1 e.1)

-- what holds of each session's lines holds of all
gather : (P : Line → Type 0) (lines : List Line) → ((k : ℕ) → AllByRecursion P (filter (is_line_of k) lines)) → AllByRecursion P lines
gather P [] a = tt
gather P (l ∷ lines) a = (here, gather P lines (λ k. later k (is_line_of k l) (a k)))
  where
    here : P l
    here = (subst (λ b. AllByRecursion P (cond b (l ∷ filter (is_line_of l.by.session) lines) (filter (is_line_of l.by.session) lines))) (eqb-refl l.by.session) (a l.by.session)).0

    later : (k : ℕ) (b : Bool) → AllByRecursion P (cond b (l ∷ filter (is_line_of k) lines) (filter (is_line_of k) lines)) → AllByRecursion P (filter (is_line_of k) lines)
    later k true x = x.1
    later k false x = x

-- ---- no event announces an oldest id

abbrev IsQuietLine : Facts → Line → Type 0
IsQuietLine f l = IsDrawn l.command → AllByRecursion IsQuiet (events_of l.by f.events)

quiet_lines : (f : Facts) (ss : List Step) → EachPlace ss (λ before step. IsLawfulRound f (flat_map lines_in before) (lines_in step)) → AllByRecursion (IsQuietLine f) (flat_map lines_in ss)
quiet_lines f ss each = by_line f (AllByRecursion (IsQuietLine f)) tt
    (λ before l round multis a lawful. both_all (IsQuietLine f) before (l ∷ []) a ((λ d. own_quiet l.by (stance f.events before l.by.session) l.command l.reply (events_of l.by f.events) d lawful.events), tt))
    ss each

both_quiet : (f : Facts) (lines : List Line) → AllByRecursion (IsQuietLine f) lines → AllByRecursion IsDrawnTurn (map turn_of lines) → AllByRecursion (λ l. AllByRecursion IsQuiet (events_of l.by f.events)) lines
both_quiet f [] a d = tt
both_quiet f (l ∷ lines) a d = (a.0 d.0, both_quiet f lines a.1 d.1)

history_quiet : (h : List Event) (lines : List Line) → AllByRecursion (λ l. AllByRecursion IsQuiet (events_of l.by h)) lines → AllByRecursion (λ e. has_line lines e ≡ true) h → AllByRecursion IsQuiet h
history_quiet h lines a t = all_from IsQuiet h (λ e k.
    let one = has_any (λ l. same_by l.by (by_of e)) lines (all_at (λ x. has_line lines x ≡ true) h e t k) in
    let quiet = all_at (λ l. AllByRecursion IsQuiet (events_of l.by h)) lines one.0 a one.1 in
    all_at IsQuiet (events_of one.0.by h) e quiet (filter_has (λ x. same_by (by_of x) one.0.by) h e k (same_by_swap one.0.by (by_of e) one.2)))

-- ---- each kind of event

goods_count : (h : List Event) (p : Event → Bool) (q : Command → Bool) → ((c : Command) (es : List Event) → AreOf c es → count_by p es ≡ cond (q c) 1 0) → (f : Facts) → f.events ≡ h → (lines : List Line) → AllByRecursion (IsGood f) lines → AllByRecursion (λ l. count_by p (events_of l.by h) ≡ cond (q l.command) 1 0) lines
goods_count h p q kinds f e [] a = tt
goods_count h p q kinds f e (l ∷ lines) a =
    (ap (λ h. count_by p (events_of l.by h)) (sym e) ∙ kinds l.command (events_of l.by f.events) a.0.0, goods_count h p q kinds f e lines a.1)

kind_count : (f : Facts) (ss : List Step) (script : List Item) (p : Event → Bool) (q : Command → Bool) → ((c : Command) (es : List Event) → AreOf c es → count_by p es ≡ cond (q c) 1 0)
    → EachPlace ss (λ before step. IsLawfulRound f (flat_map lines_in before) (lines_in step)) → AllByRecursion (λ e. has_line (flat_map lines_in ss) e ≡ true) f.events
    → AllByRecursion (IsGood f) (flat_map lines_in ss) → AreSteps 1 (asked_of script) ss
    → count_by p f.events ≡ count_by q (seconds (turns_in script))
kind_count f ss script p q kinds each has goods told =
    let lines = flat_map lines_in ss in
    sym (events_counted f ss p each f.events has)
    ∙ sum_same (λ l. count_by p (events_of l.by f.events)) (λ l. cond (q l.command) 1 0) lines (goods_count f.events p q kinds f refl lines goods)
    ∙ sym (count_map (λ (t : ℕ × Command). q t.1) turn_of lines) ∙ script_count (λ (t : ℕ × Command). q t.1) script ss told ∙ sym (count_map q (λ (t : ℕ × Command). t.1) (turns_in script))

-- ---- the verdicts, and the commands

goods_told : (f : Facts) (lines : List Line) → AllByRecursion (IsGood f) lines → AllByRecursion (λ l. one (all.is_verdict l.reply) ≡ one (said.is_told_verdict l.command)) lines
goods_told f [] a = tt
goods_told f (l ∷ lines) a = (ap one a.0.1, goods_told f lines a.1)

verdicts_count : (f : Facts) (ss : List Step) (script : List Item) → AllByRecursion (IsGood f) (flat_map lines_in ss) → AreSteps 1 (asked_of script) ss
    → count_by (λ (l : Line). all.is_verdict l.reply) (flat_map lines_in ss) ≡ count_by said.is_told_verdict (seconds (turns_in script))
verdicts_count f ss script goods told =
    let lines = flat_map lines_in ss in
    sum_same (λ (l : Line). one (all.is_verdict l.reply)) (λ l. one (said.is_told_verdict l.command)) lines (goods_told f lines goods)
    ∙ sym (count_map (λ (t : ℕ × Command). said.is_told_verdict t.1) turn_of lines) ∙ script_count (λ (t : ℕ × Command). said.is_told_verdict t.1) script ss told ∙ sym (count_map said.is_told_verdict (λ (t : ℕ × Command). t.1) (turns_in script))

commands_count : (ss : List Step) (script : List Item) → AreSteps 1 (asked_of script) ss → length (flat_map lines_in ss) ≡ length (seconds (turns_in script))
commands_count ss script told =
    let lines = flat_map lines_in ss in
    sym (count_all lines) ∙ sym (count_map (λ (t : ℕ × Command). true) turn_of lines) ∙ script_count (λ (t : ℕ × Command). true) script ss told ∙ sym (count_map (λ (c : Command). true) (λ (t : ℕ × Command). t.1) (turns_in script))
    ∙ count_all (seconds (turns_in script))

-- ---- few ids

line_ids : (h : List Event) (lines : List Line) → AllByRecursion (λ l. length (given (events_of l.by h)) ≡ count_by all.gives_id (events_of l.by h)) lines
line_ids h [] = tt
line_ids h (l ∷ lines) = (given_count (events_of l.by h), line_ids h lines)

few_given : (f : Facts) (ss : List Step) (script : List Item)
    → EachPlace ss (λ before step. IsLawfulRound f (flat_map lines_in before) (lines_in step)) → AllByRecursion (λ e. has_line (flat_map lines_in ss) e ≡ true) f.events
    → AreSteps 1 (asked_of script) ss → count_by (λ (t : ℕ × Command). makes_level t.1) (turns_in script) < 2900000 → length (given f.events) < 2900000
few_given f ss script each has told few =
    let lines = flat_map lines_in ss in
    let total = given_count f.events in
    let apart = events_counted f ss all.gives_id each f.events has in
    let same = sum_same (λ l. length (given (events_of l.by f.events))) (λ l. count_by all.gives_id (events_of l.by f.events)) lines (line_ids f.events lines) in
    let less = lines_few f ss each in
    let levels : count_by (λ l. makes_level l.command) lines ≡ count_by (λ (t : ℕ × Command). makes_level t.1) (turns_in script) =
    sym (count_map (λ (t : ℕ × Command). makes_level t.1) turn_of lines) ∙ script_count (λ (t : ℕ × Command). makes_level t.1) script ss told in
    omega arith

-- ---- the law

line_seconds : (lines : List Line) → map (λ l. l.command) lines ≡ seconds (map turn_of lines)
line_seconds [] = refl
line_seconds (l ∷ lines) = ap (λ cs. l.command ∷ cs) (line_seconds lines)

runs : (seed size k : ℕ) (ss : List Step) → AreSteps 1 (asked_of (items_from 0 (drawn_from 0 size seed))) ss → run_from (Some Outside) (commands_of k (flat_map lines_in ss)) ≡ Some Outside
runs seed size k ss told =
    let script = items_from 0 (drawn_from 0 size seed) in
    let own = filter (is_line_of k) (flat_map lines_in ss) in
    let said : commands_of k (flat_map lines_in ss) ≡ flat_map transaction (mine k 0 (drawn_from 0 size seed)) =
    line_seconds own ∙ ap seconds (session_turns k script ss told) ∙ own_commands k 0 size seed in
    ap (run_from (Some Outside)) said ∙ transactions_run (mine k 0 (drawn_from 0 size seed))

all_good : (f : Facts) (seed size : ℕ) (ss : List Step) → IsWide f → EachPlace ss (λ before step. IsLawfulRound f (flat_map lines_in before) (lines_in step))
    → AreSteps 1 (asked_of (items_from 0 (drawn_from 0 size seed))) ss → AllByRecursion IsFine (flat_map lines_in ss) → AllByRecursion (IsGood f) (flat_map lines_in ss)
all_good f seed size ss w each told fines =
    gather (IsGood f) (flat_map lines_in ss)
    (λ k. (all_walk f k w ss each Outside (all_filter IsFine (is_line_of k) (flat_map lines_in ss) fines) (runs seed size k ss told)).good)

lines_drawn : (seed size : ℕ) (ss : List Step) → size ≤ 100000 → AreSteps 1 (asked_of (items_from 0 (drawn_from 0 size seed))) ss → AllByRecursion IsDrawnTurn (map turn_of (flat_map lines_in ss))
lines_drawn seed size ss few told =
    let script = items_from 0 (drawn_from 0 size seed) in
    lines_all IsDrawnTurn 1 (asked_of script) ss told
    (subst (AllByRecursion IsDrawnTurn) (sym (ap turns_of_all (rounds_asked script) ∙ all_turns script)) (turns_drawn script (each_item IsDrawnItem size few tt (λ i c l d. d) 0 size seed (omega arith))))

pub counts : said.CountsAreTheScripts
unfolding generated no_header
counts tells banks seed size r few begins lawful fine =
    let script = items_from 0 (drawn_from 0 size seed) in
    let ss = r.steps in
    let lines = flat_map lines_in ss in
    let f : Facts = facts_of tells banks r.life ss in
    let each = lawful.lawful.each in
    let told = lawful.told in
    let has : AllByRecursion (λ e. has_line lines e ≡ true) r.life.events = recursion_from_All (λ e. IsTrue (has_line lines e)) r.life.events lawful.lawful.no_other in
    let drawn = lines_drawn seed size ss few told in
    let quiet = history_quiet r.life.events lines (both_quiet f lines (quiet_lines f ss each) drawn) has in
    let takers = few_takers seed size few in
    let levels = levels_take (λ (t : ℕ × Command). t.1) (turns_in script) in
    let ids = few_given f ss script each has told (omega (arith, takers, levels)) in
    let w = wide f (ap (λ b. b.counters.next) begins.base) (ap (λ b. b.counters.oldest) begins.base) lawful.history ids quiet in
    let goods = all_good f seed size ss w each told (lines_fine lines drawn fine) in
    let commands = commands_count ss script told in
    let given = kind_count f ss script all.gives_id said.is_write ids_are each has goods told in
    let undone = kind_count f ss script all.is_undo said.is_undo undone_are each has goods told in
    let commits = kind_count f ss script all.is_commit said.is_commit commits_are each has goods told in
    let aborts = kind_count f ss script all.is_abort said.is_abort aborts_are each has goods told in
    let snaps = kind_count f ss script all.is_snap said.is_snap snaps_are each has goods told in
    let sees = verdicts_count f ss script goods told in
    λ j. record { commands = commands j; ids = given j; undone = undone j; commits = commits j; aborts = aborts j; snaps = snaps j; sees = sees j }

pub summaries : said.SummariesAreTheScripts
summaries tells seed size text few sum new fine =
    let s = generated seed size in
    let is = one_life_told tells sum.banks sum.start s sum.report sum.life sum.lawful sum.one in
    sum.exact ∙ ap all.summary_text (counts tells sum.banks seed size sum.life few (subst (λ (start : RunStart). BeginsRun start sum.life.life) new is.0) is.1 fine)
