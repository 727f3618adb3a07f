-- The steps of a life: each line can be told, and the lines of all rounds follow each other.
use Rattle.std.proofs.Common.{◌≡◌, ◌≢◌, ◌⊎◌, ◌==◌, ℕ, suc, ◌+◌, ◌^◌, ◌<◌, ◌≤◌, List, [], ◌∷◌, ◌++◌, Bool, true, false, cond, not, None, Some, refl, sym, ap, subst, ◌∙◌, inl, inr, ⊎_elim, arith, eqb-true, length, map, take, append-nil, append_assoc, length-append}
use Rattle.std.proofs.lemmas.List.{map-append}
use Rattle.std.proofs.lemmas.List.Sums.{count_by-le-length}
use Rattle.std.specs.List.{AllByRecursion, filter, flat_map}
use Rattle.tx_events.specs.declared.record.Counters.{Counters}
use Rattle.tx_events.specs.declared.record.Rec.{Rec}
use Rattle.tx_events.specs.declared.event.Event.{Event}
use Rattle.tx_events.specs.declared.refusal.Lock.TheVariants as locks
use Rattle.tx_events.specs.declared.refusal.Refusal.{Refusal}
use Rattle.tx_events.specs.declared.refusal.Refusal.TheVariants as refusals
use Rattle.tx_model.specs.declared.command.Command.{Command}
use Rattle.tx_model.specs.declared.reply.Reply.{Reply}
use Rattle.tx_model.specs.declared.reply.Reply.TheVariants as replies
use Rattle.tx_model.specs.declared.report.DumpOf.{DumpOf}
use Rattle.tx_model.specs.declared.report.DumpOf.TheVariants as dumps
use Rattle.tx_model.specs.declared.report.Line.{Line}
use Rattle.tx_model.specs.declared.report.Step.{Step}
use Rattle.tx_model.specs.declared.report.Step.TheVariants as steps
use Rattle.tx_events.specs.declared.multi.MultiEvent.{MultiEvent}
use Rattle.tx_events.specs.Events.{events_of}
use Rattle.tx_events.specs.History.{IsLegal}
use Rattle.tx_events.specs.Places.{EachPlace, first_seen}
use Rattle.tx_events.proofs.ListSteps.{both_all, all_filter}
use Rattle.tx_events.proofs.Membership.{Has, all_at, all_from, filter_agree_on, has_place}
use Rattle.tx_model.specs.Asked as asked
use Rattle.tx_model.specs.Asked.{Asked, rounds_in}
use Rattle.tx_model.specs.Rounds.{AreSteps, lines_in}
use Rattle.tx_model.specs.Lines.{grouped, is_line_of, stance, turn_of}
use Rattle.tx_model.specs.Replies.{RoundSpan}
use Rattle.tx_model.specs.Stance.{nothing_yet}
use Rattle.life_law.specs.Dumps.{AreLawfulDumps, IsLawfulBetween, MayDump, events_behind}
use Rattle.life_law.specs.Facts.{Facts}
use Rattle.life_law.specs.Lines.{IsLawfulLine}
use Rattle.life_law.specs.Checkpoints.{IsLawfulCheckpoint, MayCheckpoint}
use Rattle.life_law.specs.MultiPlaces.{multis_of}
use Rattle.life_law.specs.MultiStanding as standing
use Rattle.life_law.specs.MultiStanding.{unfinished, unfinished_from}
use Rattle.life_law.specs.Pending.{pending, pending_from}
use Rattle.session_lang.proofs.SeenLemmas.{is_in, is_in_seen, seen-append}
use Rattle.report_words.specs.Fits.{AreNames, FitsCheckpointRefusal, FitsCheckpointReply, FitsDumpReply, IsPending, FitsCommand}
use Rattle.report_lines.specs.Fits.{FitsDump}
use Rattle.report_read.specs.declared.told.Told.{Told}
use Rattle.run_report.proofs.Fits.{CanTell, LineFits, bank_fits, own_named, reply_fits}
use Rattle.run_report.proofs.MultiFits.{GoodMultis, own_multis_named}
use Rattle.run_report.proofs.Sizes.{AskedFits, TurnFits, sessions_asked}
use Rattle.run_report.proofs.Reaching.{AreCounted, Between, Rounded, Sayable, SoFar, a_checkpoint, a_dump, a_round, counted_apart, reach_on, speakers, stays}
use Rattle.run_report.proofs.Turns.{Climbs, Cut, MaySpeak, climbs_apart, climbs_up, climbs_within, grouped_seen, grouped_speak, sessions_of}

-- ---- lines, each with those before it

-- what a lawful line is, in some round
pub record LineIs (f : Facts) (done : List Line) (l : Line) : Type 0 where
  pub round : RoundSpan
  pub span : RoundSpan
  pub lawful : IsLawfulLine f round span done l

abbrev pub EachOn : (List Line → Line → Type 0) → List Line → List Line → Type 0
EachOn P done [] = Unit {0}
EachOn P done (l ∷ ls) = P done l × EachOn P (done ++ l ∷ []) ls

each_on : (P : List Line → Line → Type 0) (done ls : List Line) → EachPlace ls (λ earlier l. P (done ++ earlier) l) → EachOn P done ls
each_on P done [] e = tt
each_on P done (l ∷ ls) e = (
  subst (λ d. P d l) (append-nil done) (e 0 l refl),
  each_on P (done ++ l ∷ []) ls (λ p x at. subst (λ d. P d x) (sym (append_assoc done (l ∷ []) (take p ls))) (e (suc p) x at)),
)

each_join : (P : List Line → Line → Type 0) (done xs ys : List Line) → EachOn P done xs → EachOn P (done ++ xs) ys → EachOn P done (xs ++ ys)
each_join P done [] ys a b = subst (λ d. EachOn P d ys) (append-nil done) b
each_join P done (x ∷ xs) ys a b = (a.0, each_join P (done ++ x ∷ []) xs ys a.1 (subst (λ d. EachOn P d ys) (sym (append_assoc done (x ∷ []) xs)) b))

pub each_steps : (P : List Line → Line → Type 0) (done : List Line) (ss : List Step) → EachPlace ss (λ before step. EachPlace (lines_in step) (λ earlier l. P (done ++ (flat_map lines_in before ++ earlier)) l)) → EachOn P done (flat_map lines_in ss)
each_steps P done [] e = tt
each_steps P done (s ∷ ss) e =
    each_join P done (lines_in s) (flat_map lines_in ss) (each_on P done (lines_in s) (e 0 s refl))
    (each_steps P (done ++ lines_in s) ss (λ p x at q l there. subst (λ d. P d l) (move p q x) (e (suc p) x at q l there)))
  where
    move : (p q : ℕ) (x : Step) → done ++ ((lines_in s ++ flat_map lines_in (take p ss)) ++ take q (lines_in x)) ≡ (done ++ lines_in s) ++ (flat_map lines_in (take p ss) ++ take q (lines_in x))
    move p q x = ap (λ t. done ++ t) (append_assoc (lines_in s) (flat_map lines_in (take p ss)) (take q (lines_in x))) ∙ sym (append_assoc done (lines_in s) (flat_map lines_in (take p ss) ++ take q (lines_in x)))

-- a fact about lines that are numbered so, and of which another fact holds
each_all : (f : Facts) (P Q : Line → Type 0) (n : ℕ) (done ls : List Line) → ((d : List Line) (l : Line) → length d < n → LineIs f d l → P l → Q l) → length done + length ls ≤ n → EachOn (LineIs f) done ls → AllByRecursion P ls → AllByRecursion Q ls
each_all f P Q n done [] g k e a = tt
each_all f P Q n done (l ∷ ls) g k e a = (
  g done l (omega arith) e.0 a.0,
  each_all f P Q n (done ++ l ∷ []) ls g (let m = length-append done (l ∷ []) in omega arith) e.1 a.1,
)

pub counted_from : (f : Facts) (done ls : List Line) → EachOn (LineIs f) done ls → AreCounted done ls
counted_from f done [] e = tt
counted_from f done (l ∷ ls) e = (e.0.lawful.number, counted_from f (done ++ l ∷ []) ls e.1)

-- ---- the rounds' commands

pub record SaidSo (names : List (List ℕ)) (l : Line) : Type 0 where
  pub session : l.by.session < length names
  pub command : FitsCommand l.command

all_blocks : {X : Type 0} (P : X → Type 0) (f : ℕ → X → Bool) (xs : List X) (ss : List ℕ) → AllByRecursion P xs → AllByRecursion P (flat_map (λ s. filter (f s) xs) ss)
all_blocks P f xs [] a = tt
all_blocks P f xs (s ∷ ss) a = both_all P (filter (f s) xs) (flat_map (λ s. filter (f s) xs) ss) (all_filter P (f s) xs a) (all_blocks P f xs ss a)

lines_said : (names : List (List ℕ)) (lines : List Line) → AllByRecursion (TurnFits names) (map turn_of lines) → AllByRecursion (SaidSo names) lines
lines_said names [] a = tt
lines_said names (l ∷ lines) a = (record { session = a.0.session; command = a.0.command }, lines_said names lines a.1)

pub rounds_said : (names : List (List ℕ)) (n : ℕ) (all : List Asked) (ss : List Step) → AreSteps n all ss → AllByRecursion (AskedFits names) all → AllByRecursion (SaidSo names) (flat_map lines_in ss)
rounds_said names n [] [] r a = tt
rounds_said names n (asked.dump what at size ∷ all) (steps.Dump of from count reply ∷ ss) r a = rounds_said names n all ss r.3 a.1
rounds_said names n (asked.checkpoint ∷ all) (steps.Checkpoint reply ∷ ss) r a = rounds_said names n all ss r a.1
rounds_said names n (asked.round turns ∷ all) (steps.Round number lines ∷ ss) r a =
    both_all (SaidSo names) lines (flat_map lines_in ss)
    (lines_said names lines (subst (AllByRecursion (TurnFits names)) (sym r.1) (all_blocks (TurnFits names) (λ s t. t.0 == s) turns (first_seen (map (λ t. t.0) turns)) a.0.each)))
    (rounds_said names (n + 1) all ss r.2 a.1)
rounds_said names n all ss r a = absurd r

speakers_are : (lines : List Line) → speakers lines ≡ sessions_of (map turn_of lines)
speakers_are [] = refl
speakers_are (l ∷ lines) = ap (λ t. l.by.session ∷ t) (speakers_are lines)

same_in : (xs ys : List ℕ) → first_seen xs ≡ first_seen ys → (y : ℕ) → is_in y xs ≡ is_in y ys
same_in xs ys e y = sym (is_in_seen y xs) ∙ ap (is_in y) e ∙ is_in_seen y ys

pub seen_join : (xs xs' ys ys' : List ℕ) → first_seen xs ≡ first_seen xs' → first_seen ys ≡ first_seen ys' → first_seen (xs ++ ys) ≡ first_seen (xs' ++ ys')
seen_join xs xs' ys ys' e f =
    seen-append xs ys
    ∙ ap (λ t. t ++ filter (λ y. not (is_in y xs)) (first_seen ys)) e
    ∙ ap (λ t. first_seen xs' ++ filter (λ y. not (is_in y xs)) t) f
    ∙ ap (λ t. first_seen xs' ++ t) (filter_agree_on (λ y. not (is_in y xs)) (λ y. not (is_in y xs')) (first_seen ys') (λ y k. ap not (same_in xs xs' e y)))
    ∙ sym (seen-append xs' ys')

-- grouped by session, round by round, the sessions first appear as in the script
pub rounds_seen : (n : ℕ) (all : List Asked) (ss : List Step) → AreSteps n all ss → first_seen (speakers (flat_map lines_in ss)) ≡ first_seen (sessions_asked all)
rounds_seen n [] [] r = refl
rounds_seen n (asked.dump what at size ∷ all) (steps.Dump of from count reply ∷ ss) r = rounds_seen n all ss r.3
rounds_seen n (asked.checkpoint ∷ all) (steps.Checkpoint reply ∷ ss) r = rounds_seen n all ss r
rounds_seen n (asked.round turns ∷ all) (steps.Round number lines ∷ ss) r =
    ap first_seen (map-append (λ (l : Line). l.by.session) lines (flat_map lines_in ss))
    ∙ seen_join (speakers lines) (sessions_of turns) (speakers (flat_map lines_in ss)) (sessions_asked all) (ap first_seen (speakers_are lines ∙ ap sessions_of r.1) ∙ grouped_seen turns) (rounds_seen (n + 1) all ss r.2)
rounds_seen n all ss r = absurd r

no_line : (turns : List (ℕ × Command)) → turns ≢ [] → [] ≡ grouped turns → ⊥
no_line [] n e = n refl
no_line (t ∷ turns) n e = nil_cons (ap (λ g. first_seen (sessions_of g)) e ∙ grouped_seen (t ∷ turns))
  where
    nil_cons : {x : ℕ} {xs : List ℕ} → [] ≡ x ∷ xs → ⊥
    nil_cons e = cc

-- ---- all steps

-- the reply of each dump can be told
abbrev pub DumpFits : Step → Type 0
DumpFits (steps.Dump what at size reply) = FitsDumpReply reply
DumpFits step = Unit {0}

-- and that of a checkpoint, behind lines in which the session spoke that it names
abbrev pub CheckpointSaid : List Line → Reply → Type 0
CheckpointSaid done replies.Done = Unit {0}
CheckpointSaid done (replies.Pending session refusal) = Has (speakers done) session × IsPending refusal
CheckpointSaid done (replies.Refused refusal) = FitsCheckpointRefusal refusal
CheckpointSaid done reply = ⊥

abbrev pub StepSaid : List Line → Step → Type 0
StepSaid done (steps.Checkpoint reply) = CheckpointSaid done reply
StepSaid done step = Unit {0}

abbrev pub AllSaid : List Line → List Step → Type 0
AllSaid done [] = Unit {0}
AllSaid done (s ∷ ss) = StepSaid done s × AllSaid (done ++ lines_in s) ss

-- a session that spoke is known
said_fits : (known : List (List ℕ)) (k : ℕ) (done : List Line) (reply : Reply) → length known ≡ k → AllByRecursion (λ x. x < k) (speakers done) → CheckpointSaid done reply → FitsCheckpointReply known reply
said_fits known k done replies.Done e low said = tt
said_fits known k done (replies.Pending session refusal) e low said = (subst (λ n. session < n) (sym e) (all_at (λ x. x < k) (speakers done) session low said.0), said.1)
said_fits known k done (replies.Refused refusal) e low said = said
said_fits known k done reply e low said = absurd said

-- those that spoke stay low
lower : (k k' : ℕ) (xs : List ℕ) → k ≤ k' → AllByRecursion (λ x. x < k) xs → AllByRecursion (λ x. x < k') xs
lower k k' [] up a = tt
lower k k' (x ∷ xs) up a = (let l = a.0 in omega (arith, l, up), lower k k' xs up a.1)

pub rounds_reach : (names : List (List ℕ)) (k k' : ℕ) (done : List Line) (told : List Step) (n : ℕ) (t : Told) (all : List Asked) (ss : List Step) → AreNames names → length names ≤ 64 → Between names k done told n t → AreSteps (n + 1) all ss → AllByRecursion (AskedFits names) all → AllByRecursion DumpFits ss → AllByRecursion (Sayable names) (flat_map lines_in ss) → AreCounted done (flat_map lines_in ss) → Climbs k (speakers (flat_map lines_in ss)) k' → n + length (rounds_in all) < 2 ^ 64 → AllByRecursion (λ x. x < k) (speakers done) → AllSaid done ss →
    Rounded names k' (done ++ flat_map lines_in ss) (told ++ ss) (n + length (rounds_in all)) t
rounds_reach names k k' done told n t [] [] a few b r f d y e c small low said = record {
  last = t;
  reach = stays t;
  between = record {
    known = b.known;
    rest = b.rest;
    count = b.count ∙ c;
    so_far = subst (λ d. SoFar names b.known b.rest d t) (sym (append-nil done)) b.so_far;
    begins = b.begins;
    steps = b.steps ∙ sym (append-nil told);
    round = b.round ∙ (omega arith);
  };
  lives = refl;
  start = refl;
}
rounds_reach names k k' done told n t (asked.dump what at size ∷ all) (steps.Dump of from much reply ∷ ss) a few b r f d y e c small low said =
    let fits : FitsDump of from much = subst (λ (z : DumpOf × ℕ × ℕ). FitsDump z.0 z.1 z.2) (λ j. (sym r.0 j, sym r.1 j, sym r.2 j)) f.0 in
    let first = a_dump names k done told n t of from much reply a b fits d.0 in
    let rest = rounds_reach names k k' done (told ++ steps.Dump of from much reply ∷ []) n first.last all ss a few first.between r.3 f.1 d.1 y e c small low (subst (λ ls. AllSaid ls ss) (append-nil done) said.1) in
    record {
      last = rest.last;
      reach = reach_on t first.last rest.last first.reach rest.reach;
      between = subst (λ s. Between names k' (done ++ flat_map lines_in ss) s (n + length (rounds_in all)) rest.last) (append_assoc told (steps.Dump of from much reply ∷ []) ss) rest.between;
      lives = rest.lives ∙ first.lives;
      start = rest.start ∙ first.start;
    }
rounds_reach names k k' done told n t (asked.checkpoint ∷ all) (steps.Checkpoint reply ∷ ss) a few b r f d y e c small low said =
    let first = a_checkpoint names k done told n t reply a few b (said_fits b.known k done reply b.count low said.0) in
    let rest = rounds_reach names k k' done (told ++ steps.Checkpoint reply ∷ []) n first.last all ss a few first.between r f.1 d.1 y e c small low (subst (λ ls. AllSaid ls ss) (append-nil done) said.1) in
    record {
      last = rest.last;
      reach = reach_on t first.last rest.last first.reach rest.reach;
      between = subst (λ s. Between names k' (done ++ flat_map lines_in ss) s (n + length (rounds_in all)) rest.last) (append_assoc told (steps.Checkpoint reply ∷ []) ss) rest.between;
      lives = rest.lives ∙ first.lives;
      start = rest.start ∙ first.start;
    }
rounds_reach names k k' done told n t (asked.round turns ∷ all) (steps.Round number [] ∷ ss) a few b r f d y e c small low said = absurd (no_line turns f.0.some r.1)
rounds_reach names k k' done told n t (asked.round turns ∷ all) (steps.Round number (l ∷ ls) ∷ ss) a few b r f d y e c small low said =
    let lines : List Line = l ∷ ls in
    let more : List Line = flat_map lines_in ss in
    let cut : Cut k (speakers lines) (speakers more) k' = climbs_apart k k' (speakers lines) (speakers more) (subst (λ xs. Climbs k xs k') (map-append (λ (l : Line). l.by.session) lines more) c) in
    let counted = counted_apart done lines more e in
    let says = all_apart (Sayable names) lines more y in
    let speak : MaySpeak None [] (speakers lines) = subst (MaySpeak None []) (sym (speakers_are lines ∙ ap sessions_of r.1)) (grouped_speak turns) in
    let spoke : AllByRecursion (λ x. x < cut.middle) (speakers (done ++ lines)) = subst (AllByRecursion (λ x. x < cut.middle)) (sym (map-append (λ (l : Line). l.by.session) done lines))
    (both_all (λ x. x < cut.middle) (speakers done) (speakers lines) (lower k cut.middle (speakers done) (climbs_up k cut.middle (speakers lines) cut.front) low) (climbs_within k cut.middle (speakers lines) cut.front)) in
    let first = a_round names k cut.middle done told n t l ls a few b (omega arith) says.0 counted.0 speak cut.front in
    let rest = rounds_reach names cut.middle k' (done ++ lines) (told ++ steps.Round (n + 1) lines ∷ []) (n + 1) first.last all ss a few first.between r.2 f.1 d.1 says.1 counted.1 cut.behind (omega arith) spoke said.1 in
    let same : (told ++ steps.Round (n + 1) lines ∷ []) ++ ss ≡ told ++ steps.Round number lines ∷ ss = append_assoc told (steps.Round (n + 1) lines ∷ []) ss ∙ ap (λ i. told ++ steps.Round i lines ∷ ss) (sym r.0) in
    let count : n + 1 + length (rounds_in all) ≡ n + length (turns ∷ rounds_in all) = omega arith in
    record {
      last = rest.last;
      reach = reach_on t first.last rest.last first.reach rest.reach;
      between = subst (λ d. Between names k' d (told ++ steps.Round number lines ∷ ss) (n + length (turns ∷ rounds_in all)) rest.last) (append_assoc done lines more)
          (subst (λ s. Between names k' ((done ++ lines) ++ more) s (n + length (turns ∷ rounds_in all)) rest.last) same
          (subst (λ i. Between names k' ((done ++ lines) ++ more) ((told ++ steps.Round (n + 1) lines ∷ []) ++ ss) i rest.last) count rest.between));
      lives = rest.lives ∙ first.lives;
      start = rest.start ∙ first.start;
    }
  where
    all_apart : {X : Type 0} (P : X → Type 0) (xs ys : List X) → AllByRecursion P (xs ++ ys) → AllByRecursion P xs × AllByRecursion P ys
    all_apart P [] ys q = (tt, q)
    all_apart P (x ∷ xs) ys q = let r = all_apart P xs ys q.1 in ((q.0, r.0), r.1)
rounds_reach names k k' done told n t all ss a few b r f d y e c small low said = absurd r

-- a lawful dump's reply can be told
dump_reply_fits : (banks : ℕ) (base : Counters) (recs : List Rec) (h : List Event) (what : DumpOf) (size : ℕ) (reply : Reply) → banks ≤ 16 → MayDump banks base recs h what size reply → FitsDumpReply reply
dump_reply_fits banks base recs h dumps.Log size (replies.Bytes bytes) few m = m.0
dump_reply_fits banks base recs h dumps.Log size (replies.Refused refusals.LogFault) few m = tt
dump_reply_fits banks base recs h (dumps.Xact page) size (replies.Bytes bytes) few m = m.0
dump_reply_fits banks base recs h (dumps.Xact page) size (replies.Cut cutoff) few m = let c = m.0.2 in omega (arith, c)
dump_reply_fits banks base recs h (dumps.Xact page) size (replies.Refused (refusals.DiskFault (locks.Xact bank))) few m = let b = m.0 in omega (arith, b, few)
dump_reply_fits banks base recs h (dumps.Subtrans page) size (replies.Bytes bytes) few m = m.0
dump_reply_fits banks base recs h (dumps.Subtrans page) size (replies.Cut cutoff) few m = let c = m.0.2 in omega (arith, c)
dump_reply_fits banks base recs h (dumps.Subtrans page) size (replies.Refused (refusals.DiskFault (locks.Subtrans bank))) few m = let b = m.0 in omega (arith, b, few)
dump_reply_fits banks base recs h (dumps.Offsets page) size (replies.Bytes bytes) few m = m.0
dump_reply_fits banks base recs h (dumps.Offsets page) size (replies.Cut cutoff) few m = let c = m.0.2 in omega (arith, c)
dump_reply_fits banks base recs h (dumps.Offsets page) size (replies.Refused (refusals.DiskFault (locks.Offsets bank))) few m = let b = m.0 in omega (arith, b, few)
dump_reply_fits banks base recs h (dumps.Members page) size (replies.Bytes bytes) few m = m.0
dump_reply_fits banks base recs h (dumps.Members page) size (replies.Cut cutoff) few m = let c = m.0.2 in omega (arith, c)
dump_reply_fits banks base recs h (dumps.Members page) size (replies.Refused (refusals.DiskFault (locks.Members bank))) few m = let b = m.0 in omega (arith, b, few)
dump_reply_fits banks base recs h what size reply few m = absurd m

step_dump_fits : (f : Facts) (before : List Line) (step : Step) → f.banks ≤ 16 → IsLawfulBetween f before step → DumpFits step
step_dump_fits f before (steps.Round number lines) few m = tt
step_dump_fits f before (steps.Checkpoint reply) few m = tt
step_dump_fits f before (steps.Dump what at size reply) few m = dump_reply_fits f.banks f.base f.recs (events_behind f.events before) what size reply few m

pub dumps_fit : (f : Facts) (ss : List Step) → f.banks ≤ 16 → AreLawfulDumps f ss → AllByRecursion DumpFits ss
dumps_fit f ss few d = all_from DumpFits ss (λ step k. let p = has_place ss step k in step_dump_fits f (flat_map lines_in (take p.0 ss)) step few (d p.0 step p.1))

-- ---- checkpoints that can be told

spoke_or_not : (session : ℕ) (lines : List Line) → (filter (is_line_of session) lines ≡ []) ⊎ Has (speakers lines) session
spoke_or_not session [] = inl refl
spoke_or_not session (l ∷ lines) = step (l.by.session == session) refl (spoke_or_not session lines)
  where
    step : (b : Bool) → (l.by.session == session) ≡ b → (filter (is_line_of session) lines ≡ []) ⊎ Has (speakers lines) session → (cond b (l ∷ filter (is_line_of session) lines) (filter (is_line_of session) lines) ≡ []) ⊎ Has (speakers (l ∷ lines)) session
    step true q rest = inr (inl (eqb-true l.by.session session q))
    step false q rest = ⊎_elim (λ (e : filter (is_line_of session) lines ≡ []). inl e) (λ (h : Has (speakers lines) session). inr (inr h)) rest

no_refusal : (r : Refusal) → None ≡ Some r → ⊥
no_refusal r e = cc

-- a session of which an end is pending has spoken
pending_spoke : (recs : List Rec) (h : List Event) (lines : List Line) (session : ℕ) (refusal : Refusal) → pending recs h lines session ≡ Some refusal → Has (speakers lines) session
pending_spoke recs h lines session refusal p = ⊎_elim
    (λ (e : filter (is_line_of session) lines ≡ []). absurd (no_refusal refusal (sym (ap (pending_from recs h nothing_yet None) e) ∙ p)))
    (λ (k : Has (speakers lines) session). k)
    (spoke_or_not session lines)

-- and so has one that may be in the midst of a multixact
unfinished_spoke : (h : List MultiEvent) (lines : List Line) (session : ℕ) → unfinished h lines session ≢ standing.none → Has (speakers lines) session
unfinished_spoke h lines session p = ⊎_elim
    (λ (e : filter (is_line_of session) lines ≡ []). absurd (p (ap (unfinished_from h standing.none) e)))
    (λ (k : Has (speakers lines) session). k)
    (spoke_or_not session lines)

checkpoint_said : (f : Facts) (before : List Line) (reply : Reply) → CanTell f → MayCheckpoint f before reply → CheckpointSaid before reply
checkpoint_said f before replies.Done t m = tt
checkpoint_said f before (replies.Pending session refusals.CommitPending) t m = (pending_spoke f.recs f.events before session refusals.CommitPending m.0, tt)
checkpoint_said f before (replies.Pending session refusals.MultiPending) t m = (unfinished_spoke f.multis before session m.0, tt)
checkpoint_said f before (replies.Refused (refusals.DiskFault lock)) t m = bank_fits f.banks lock t.banks m.1
checkpoint_said f before (replies.Refused refusals.LogFault) t m = tt
checkpoint_said f before (replies.Refused (refusals.LogDown at)) t m = subst (λ n. n < 2 ^ 64) (sym m.1) t.flushed
checkpoint_said f before (replies.Refused refusals.Full) t m = tt
checkpoint_said f before (replies.Refused refusals.Memory) t m = tt
checkpoint_said f before reply t m = absurd m

step_said : (f : Facts) (before : List Line) (step : Step) → CanTell f → IsLawfulCheckpoint f before step → StepSaid before step
step_said f before (steps.Round number lines) t m = tt
step_said f before (steps.Dump what at size reply) t m = tt
step_said f before (steps.Checkpoint reply) t m = checkpoint_said f before reply t m

pub checkpoints_said : (f : Facts) (done : List Line) (ss : List Step) → CanTell f → EachPlace ss (λ before step. IsLawfulCheckpoint f (done ++ flat_map lines_in before) step) → AllSaid done ss
checkpoints_said f done [] t each = tt
checkpoints_said f done (s ∷ ss) t each = (
  step_said f done s t (subst (λ d. IsLawfulCheckpoint f d s) (append-nil done) (each 0 s refl)),
  checkpoints_said f (done ++ lines_in s) ss t (λ p x at. subst (λ d. IsLawfulCheckpoint f d x) (sym (append_assoc done (lines_in s) (flat_map lines_in (take p ss)))) (each (suc p) x at)),
)

-- ---- lines that can be told

-- each line can be told
pub lines_sayable : (names : List (List ℕ)) (f : Facts) (lines : List Line) → CanTell f → length lines < 2 ^ 28 → EachOn (LineIs f) [] lines → AllByRecursion (SaidSo names) lines → AllByRecursion (Sayable names) lines
lines_sayable names f lines t few e a =
    each_all f (SaidSo names) (Sayable names) (2 ^ 28) [] lines
    (λ d k small i s. record {
      session = s.session;
      small = let c = count_by-le-length (is_line_of k.by.session) d in let n = i.lawful.number in omega arith;
      command = s.command;
      reply = reply_fits f d i.round i.span k.by (stance f.events d k.by.session) (pending f.recs f.events d k.by.session) k.command k.reply t s.command i.lawful.multi_events i.lawful.reply i.lawful.events;
    })
    (omega arith) e a

pub lines_fit : (names : List (List ℕ)) (f : Facts) (lines : List Line) → IsLegal f.base f.events → GoodMultis f.base f.multis → length lines < 2 ^ 28 → EachOn (LineIs f) [] lines → AllByRecursion (SaidSo names) lines → AllByRecursion (LineFits names f.events f.multis) lines
lines_fit names f lines legal good few e a =
    each_all f (SaidSo names) (LineFits names f.events f.multis) (2 ^ 28) [] lines
    (λ d k small i s. record {
      by = record { session = s.session; command = let c = count_by-le-length (is_line_of k.by.session) d in let n = i.lawful.number in omega arith };
      events = own_named k.by (stance f.events d k.by.session) k.command k.reply (events_of k.by f.events) s.command i.lawful.events;
      multis = own_multis_named f.base f.events i.round f.multis k.by k.command k.reply (multis_of k.by f.multis) legal good s.command i.lawful.multi_events;
    })
    (omega arith) e a
