-- Lines that can follow each other, from the title to the last one.
use Rattle.std.proofs.Common.{◌≡◌, ℕ, suc, ◌+◌, ◌^◌, ◌<◌, ◌≤◌, ◌==◌, List, [], ◌∷◌, ◌++◌, Bool, true, false, cond, None, refl, sym, ap, subst, ◌∙◌, ⊎_elim, arith, length, map, get_or, set, eqb-true, append-nil, append_assoc, length-append}
use Rattle.std.proofs.lemmas.Bool.{false≢true}
use Rattle.std.proofs.lemmas.List.{get_or-set_other, get_or-set_same, length-set}
use Rattle.std.proofs.lemmas.List.Sums.{sum_by-append}
use Rattle.std.proofs.lemmas.Slice.Eq.{bytes_eq-Decides}
use Rattle.std.specs.List.{AllByRecursion, IsDistinct, count_by}
use Rattle.std.specs.Option.{unwrap_or}
use Rattle.std.specs.Str.{bytes_eq}
use Rattle.tx_events.specs.declared.event.Event.{Event}
use Rattle.tx_events.specs.declared.multi.MultiEvent.{MultiEvent}
use Rattle.tx_events.specs.declared.record.Rec.{Rec}
use Rattle.tx_model.specs.declared.reply.Reply.{Reply}
use Rattle.tx_model.specs.declared.report.DumpOf.{DumpOf}
use Rattle.tx_model.specs.declared.report.Line.{Line}
use Rattle.tx_model.specs.declared.report.Step.{Step}
use Rattle.tx_model.specs.declared.report.Step.TheVariants as steps
use Rattle.tx_events.specs.Events.{by_of, same_name}
use Rattle.tx_events.proofs.ListSteps.{eqb-refl, length_push}
use Rattle.tx_events.proofs.Names.{same_name_refl}
use Rattle.tx_events.proofs.PlaceLemmas.{last_at}
use Rattle.tx_model.specs.Lines.{is_line_of}
use Rattle.tx_model.proofs.LineGrowth.{lines_counted}
use Rattle.tx_events.specs.Names.{IsName}
use Rattle.tx_events.specs.Multis.{multi_by}
use Rattle.report_text.specs.Words.{name_at}
use Rattle.tx_model.specs.declared.reply.Reply.TheVariants as replies
use Rattle.report_words.specs.Fits.{AreNames, FitsCheckpointReply, FitsDumpReply, FitsReply, FitsCommand, FitsEvent, FitsLine, FitsMultiEvent}
use Rattle.report_words.specs.Reading.{name_place}
use Rattle.report_words.specs.Replies.{kind_of}
use Rattle.report_words.proofs.Places.{place_again}
use Rattle.report_lines.specs.Fits.{FitsDump}
use Rattle.report_read.specs.Item.{Item}
use Rattle.report_read.specs.Item as items
use Rattle.report_read.specs.Grammar.{AreNamed, Follows, IsNamed, after, begins_step, is_round, may_speak, note, noted, session_of, steps_told}
use Rattle.report_read.specs.Reports.{IsRun}
use Rattle.report_read.specs.declared.told.Stage.TheVariants as stages
use Rattle.report_read.specs.declared.told.Told.{Told}
use Rattle.run_report.proofs.Fits.{fits_by, multi_fits_by}
use Rattle.run_report.proofs.Ids.{front_all}
use Rattle.run_report.proofs.Records.{AreNumbered}
use Rattle.run_report.proofs.Turns.{Climbs, MaySpeak}

-- lines lead from what is told to what is told then
pub record Reaches (t m : Told) : Type 0 where
  pub run : List (Item × Told)
  pub goes : IsRun t run m

pub stays : (t : Told) → Reaches t t
stays t = record { run = []; goes = refl }

pub follows_on : (t m last : Told) (x : Item) → Follows t x m → Reaches m last → Reaches t last
follows_on t m last x f r = record { run = (x, m) ∷ r.run; goes = (f, r.goes) }

run_on : (t m last : Told) (ps qs : List (Item × Told)) → IsRun t ps m → IsRun m qs last → IsRun t (ps ++ qs) last
run_on t m last [] qs g h = subst (λ (s : Told). IsRun s qs last) (sym g) h
run_on t m last (p ∷ ps) qs g h = (g.0, run_on p.1 m last ps qs g.1 h)

pub reach_on : (t m last : Told) → Reaches t m → Reaches m last → Reaches t last
reach_on t m last a b = record { run = a.run ++ b.run; goes = run_on t m last a.run b.run a.goes b.goes }

-- ---- names

last_of_all : {X : Type 0} (P : X → Type 0) (xs : List X) (y : X) → AllByRecursion P (xs ++ y ∷ []) → P y
last_of_all P [] y a = a.0
last_of_all P (x ∷ xs) y a = last_of_all P xs y a.1

front_distinct : (xs ys : List (List ℕ)) → IsDistinct same_name (xs ++ ys) → IsDistinct same_name xs
unfolding IsDistinct
front_distinct [] ys d = tt
front_distinct (x ∷ xs) ys d = (front_all (λ y. same_name x y ≡ false) xs ys d.0, front_distinct xs ys d.1)

pub front_names : (xs ys : List (List ℕ)) → AreNames (xs ++ ys) → AreNames xs
front_names xs ys a = record { each = front_all IsName xs ys a.each; distinct = front_distinct xs ys a.distinct }

-- a session that was named before
pub known_named : (names : List (List ℕ)) (s : ℕ) → AreNames names → length names ≤ 64 → s < length names → IsNamed names s names
known_named names s a few l = record { within = l; noted = sym (ap (noted names (name_at names s)) (place_again names s a.distinct l)); few = few; are = a }

other_bytes : (n m : List ℕ) (b : Bool) → bytes_eq n m ≡ b → same_name n m ≡ false → b ≡ false
other_bytes n m true e f = absurd (false≢true (sym f ∙ ap (same_name n) (sym ((bytes_eq-Decides n m).0 e)) ∙ same_name_refl n))
other_bytes n m false e f = refl

new_place : (xs : List (List ℕ)) (n : List ℕ) → IsDistinct same_name (xs ++ n ∷ []) → name_place xs n ≡ None
unfolding IsDistinct
new_place [] n d = refl
new_place (x ∷ xs) n d = rw (other_bytes x n (bytes_eq x n) refl (last_of_all (λ y. same_name x y ≡ false) xs n d.0), new_place xs n d.1) refl

-- and the next one
next_named : (known : List (List ℕ)) (n : List ℕ) → AreNames (known ++ n ∷ []) → length (known ++ n ∷ []) ≤ 64 → IsNamed known (length known) (known ++ n ∷ [])
next_named known n a few = record {
  within = let k = length_push known n in omega arith;
  noted = sym (ap (λ o. note known (unwrap_or o [])) (last_at known n) ∙ ap (noted known n) (new_place known n a.distinct));
  few = few;
  are = a;
}

-- ---- the lines of a round

-- what a line says can be told
pub record Sayable (names : List (List ℕ)) (l : Line) : Type 0 where
  pub session : l.by.session < length names
  pub small : l.by.command < 2 ^ 64
  pub command : FitsCommand l.command
  pub reply : FitsReply (kind_of l.command) l.reply

-- the names known so far, and how many commands each session had in the lines that are done
pub record SoFar (names known rest : List (List ℕ)) (done : List Line) (t : Told) : Type 0 where
  pub split : names ≡ known ++ rest
  pub told : t.names ≡ known
  pub lengths : length t.counts ≡ 64
  pub counts : (j : ℕ) → j < 64 → get_or t.counts j 0 ≡ count_by (is_line_of j) done

count_other : (j : ℕ) (done : List Line) (l : Line) → (l.by.session == j) ≡ false → count_by (is_line_of j) (done ++ l ∷ []) ≡ count_by (is_line_of j) done
count_other j done l e =
    let one : count_by (is_line_of j) (l ∷ []) ≡ 0 = rw e refl in
    let all = sum_by-append (λ k. cond (is_line_of j k) 1 0) done (l ∷ []) in
    omega (arith, one, all)

counts_on : (counts : List ℕ) (done : List Line) (l : Line) → length counts ≡ 64 → ((j : ℕ) → j < 64 → get_or counts j 0 ≡ count_by (is_line_of j) done) → l.by.session < 64 → l.by.command ≡ count_by (is_line_of l.by.session) done + 1 → (j : ℕ) → j < 64 →
    get_or (set counts l.by.session l.by.command) j 0 ≡ count_by (is_line_of j) (done ++ l ∷ [])
counts_on counts done l n c s e j k = step (l.by.session == j) refl
  where
    step : (b : Bool) → (l.by.session == j) ≡ b → get_or (set counts l.by.session l.by.command) j 0 ≡ count_by (is_line_of j) (done ++ l ∷ [])
    step true q =
        let same : l.by.session ≡ j = eqb-true l.by.session j q in
        subst (λ i. get_or (set counts l.by.session l.by.command) i 0 ≡ count_by (is_line_of i) (done ++ l ∷ [])) same
        (get_or-set_same counts l.by.session l.by.command 0 (omega arith) ∙ e ∙ sym (lines_counted done l))
    step false q =
        get_or-set_other counts l.by.session j l.by.command 0 (λ z. false≢true (sym q ∙ ap (λ y. l.by.session == y) z ∙ eqb-refl l.by.session))
        ∙ c j k
        ∙ sym (count_other j done l q)

-- what is told with a line more
abbrev pub with_line : Told → Line → List (List ℕ) → Told
with_line t l known = record (after t (items.command l)) { names = known }

pub record LineStep (names : List (List ℕ)) (k' : ℕ) (done : List Line) (t : Told) (l : Line) : Type 0 where
  pub known : List (List ℕ)
  pub rest : List (List ℕ)
  pub count : length known ≡ k'
  pub follows : Follows t (items.command l) (with_line t l known)
  pub so_far : SoFar names known rest (done ++ l ∷ []) (with_line t l known)

line_fits : (names known : List (List ℕ)) (l : Line) → Sayable names l → l.by.session < length known → FitsLine known l
line_fits names known l s w = record { by = record { session = w; command = s.small }; command = s.command; reply = s.reply }

a_line : (names before known rest : List (List ℕ)) (done : List Line) (t : Told) (l : Line) (others : List (List ℕ)) → length names ≤ 64 → SoFar names before others done t → is_round t.stage ≡ true → Sayable names l → l.by.command ≡ count_by (is_line_of l.by.session) done + 1 → may_speak t.speaker t.spoken l.by.session ≡ true → names ≡ known ++ rest → IsNamed before l.by.session known → LineStep names (length known) done t l
a_line names before known rest done t l others few s st y e m split named =
    let in64 : l.by.session < 64 = let w = y.session in omega arith in
    record {
      known = known;
      rest = rest;
      count = refl;
      follows = record {
        stands = st;
        rule = (subst (λ ns. IsNamed ns l.by.session known) (sym s.told) named, line_fits names known l y named.within, e ∙ ap (λ n. n + 1) (sym (s.counts l.by.session in64)), m);
        told = refl;
      };
      so_far = record {
        split = split;
        told = refl;
        lengths = length-set t.counts l.by.session l.by.command ∙ s.lengths;
        counts = counts_on t.counts done l s.lengths s.counts in64 e;
      };
    }

old_line : (names known rest : List (List ℕ)) (done : List Line) (t : Told) (l : Line) → AreNames names → length names ≤ 64 → SoFar names known rest done t → is_round t.stage ≡ true → Sayable names l → l.by.command ≡ count_by (is_line_of l.by.session) done + 1 → may_speak t.speaker t.spoken l.by.session ≡ true → l.by.session < length known → LineStep names (length known) done t l
old_line names known rest done t l a few s st y e m w =
    let are : AreNames known = front_names known rest (subst AreNames s.split a) in
    let short : length known ≤ 64 = let k = ap length s.split in omega (arith, length-append known rest) in
    a_line names known known rest done t l rest few s st y e m s.split (known_named known l.by.session are short w)

new_line : (names known rest : List (List ℕ)) (done : List Line) (t : Told) (l : Line) → AreNames names → length names ≤ 64 → SoFar names known rest done t → is_round t.stage ≡ true → Sayable names l → l.by.command ≡ count_by (is_line_of l.by.session) done + 1 → may_speak t.speaker t.spoken l.by.session ≡ true → l.by.session ≡ length known → LineStep names (suc (length known)) done t l
new_line names known [] done t l a few s st y e m w =
    let all : length names ≡ length known = ap length (s.split ∙ append-nil known) in
    let in_names = y.session in
    absurd (omega arith)
new_line names known (n ∷ rest) done t l a few s st y e m w =
    let split : names ≡ (known ++ n ∷ []) ++ rest = s.split ∙ sym (append_assoc known (n ∷ []) rest) in
    let are : AreNames (known ++ n ∷ []) = front_names (known ++ n ∷ []) rest (subst AreNames split a) in
    let short : length (known ++ n ∷ []) ≤ 64 = let k = ap length split in omega (arith, length-append (known ++ n ∷ []) rest) in
    subst (λ k. LineStep names k done t l) (length_push known n)
    (a_line names known (known ++ n ∷ []) rest done t l (n ∷ rest) few s st y e m split (subst (λ i. IsNamed known i (known ++ n ∷ [])) (sym w) (next_named known n are short)))

-- each line's number is the next one of its session
abbrev pub AreCounted : List Line → List Line → Type 0
AreCounted done [] = Unit {0}
AreCounted done (l ∷ ls) = (l.by.command ≡ count_by (is_line_of l.by.session) done + 1) × AreCounted (done ++ l ∷ []) ls

pub counted_apart : (done xs ys : List Line) → AreCounted done (xs ++ ys) → AreCounted done xs × AreCounted (done ++ xs) ys
counted_apart done [] ys c = (tt, subst (λ d. AreCounted d ys) (sym (append-nil done)) c)
counted_apart done (x ∷ xs) ys c = let r = counted_apart (done ++ x ∷ []) xs ys c.1 in ((c.0, r.0), subst (λ d. AreCounted d ys) (append_assoc done (x ∷ []) xs) r.1)

abbrev pub speakers : List Line → List ℕ
speakers lines = map (λ l. l.by.session) lines

-- the present life has the same beginning, steps and round
pub record SameLife (t m : Told) : Type 0 where
  pub lives : m.lives ≡ t.lives
  pub start : m.start ≡ t.start
  pub steps : m.steps ≡ t.steps
  pub round : m.round ≡ t.round

pub record Spoken (names : List (List ℕ)) (k' : ℕ) (done lines : List Line) (t : Told) : Type 0 where
  pub last : Told
  pub known : List (List ℕ)
  pub rest : List (List ℕ)
  pub count : length known ≡ k'
  pub so_far : SoFar names known rest done last
  pub reach : Reaches t last
  pub stage : last.stage ≡ stages.Spoken
  pub same : SameLife t last
  pub told : last.lines ≡ lines

climb_line : (names known rest : List (List ℕ)) (done : List Line) (t : Told) (l : Line) (xs : List ℕ) (k' : ℕ) → AreNames names → length names ≤ 64 → SoFar names known rest done t → is_round t.stage ≡ true → Sayable names l → l.by.command ≡ count_by (is_line_of l.by.session) done + 1 → may_speak t.speaker t.spoken l.by.session ≡ true → Climbs (length known) (l.by.session ∷ xs) k' → (k : ℕ) × LineStep names k done t l × Climbs k xs k'
climb_line names known rest done t l xs k' a few s st y e m c = ⊎_elim
    (λ (b : (l.by.session < length known) × Climbs (length known) xs k'). (length known, old_line names known rest done t l a few s st y e m b.0, b.1))
    (λ (b : (l.by.session ≡ length known) × Climbs (suc (length known)) xs k'). (suc (length known), new_line names known rest done t l a few s st y e m b.0, b.1))
    c

-- the lines behind a first one
lines_on : (names known rest : List (List ℕ)) (done : List Line) (t : Told) (ls : List Line) (k' : ℕ) → AreNames names → length names ≤ 64 → SoFar names known rest done t → t.stage ≡ stages.Spoken → AllByRecursion (Sayable names) ls → AreCounted done ls → MaySpeak t.speaker t.spoken (speakers ls) → Climbs (length known) (speakers ls) k' → Spoken names k' (done ++ ls) (t.lines ++ ls) t
lines_on names known rest done t [] k' a few s st y e m c = record {
  last = t;
  known = known;
  rest = rest;
  count = c;
  so_far = subst (λ d. SoFar names known rest d t) (sym (append-nil done)) s;
  reach = stays t;
  stage = st;
  same = record { lives = refl; start = refl; steps = refl; round = refl };
  told = sym (append-nil t.lines);
}
lines_on names known rest done t (l ∷ ls) k' a few s st y e m c =
    let one = climb_line names known rest done t l (speakers ls) k' a few s (ap is_round st) y.0 e.0 m.0 c in
    let step = one.1 in
    let mid : Told = with_line t l step.known in
    let more = lines_on names step.known step.rest (done ++ l ∷ []) mid ls k' a few step.so_far refl y.1 e.1 m.1 (subst (λ k. Climbs k (speakers ls) k') (sym step.count) one.2) in
    record {
      last = more.last;
      known = more.known;
      rest = more.rest;
      count = more.count;
      so_far = subst (λ d. SoFar names more.known more.rest d more.last) (append_assoc done (l ∷ []) ls) more.so_far;
      reach = follows_on t mid more.last (items.command l) step.follows more.reach;
      stage = more.stage;
      same = record { lives = more.same.lives; start = more.same.start; steps = more.same.steps; round = more.same.round };
      told = more.told ∙ append_assoc t.lines (l ∷ []) ls;
    }

-- all lines of a round, of which there are some
lines_of_round : (names known rest : List (List ℕ)) (done : List Line) (t : Told) (l : Line) (ls : List Line) (k' : ℕ) → AreNames names → length names ≤ 64 → SoFar names known rest done t → t.stage ≡ stages.Silent → AllByRecursion (Sayable names) (l ∷ ls) → AreCounted done (l ∷ ls) → MaySpeak t.speaker t.spoken (speakers (l ∷ ls)) → Climbs (length known) (speakers (l ∷ ls)) k' → Spoken names k' (done ++ l ∷ ls) (t.lines ++ l ∷ ls) t
lines_of_round names known rest done t l ls k' a few s st y e m c =
    let one = climb_line names known rest done t l (speakers ls) k' a few s (ap is_round st) y.0 e.0 m.0 c in
    let step = one.1 in
    let mid : Told = with_line t l step.known in
    let more = lines_on names step.known step.rest (done ++ l ∷ []) mid ls k' a few step.so_far refl y.1 e.1 m.1 (subst (λ k. Climbs k (speakers ls) k') (sym step.count) one.2) in
    record {
      last = more.last;
      known = more.known;
      rest = more.rest;
      count = more.count;
      so_far = subst (λ d. SoFar names more.known more.rest d more.last) (append_assoc done (l ∷ []) ls) more.so_far;
      reach = follows_on t mid more.last (items.command l) step.follows more.reach;
      stage = more.stage;
      same = record { lives = more.same.lives; start = more.same.start; steps = more.same.steps; round = more.same.round };
      told = more.told ∙ append_assoc t.lines (l ∷ []) ls;
    }

-- ---- rounds

-- between two rounds
pub record Between (names : List (List ℕ)) (k : ℕ) (done : List Line) (told : List Step) (n : ℕ) (t : Told) : Type 0 where
  pub known : List (List ℕ)
  pub rest : List (List ℕ)
  pub count : length known ≡ k
  pub so_far : SoFar names known rest done t
  pub begins : begins_step t.stage ≡ true
  pub steps : steps_told t.stage t ≡ told
  pub round : t.round ≡ n

pub record Rounded (names : List (List ℕ)) (k : ℕ) (done : List Line) (told : List Step) (n : ℕ) (t : Told) : Type 0 where
  pub last : Told
  pub reach : Reaches t last
  pub between : Between names k done told n last
  pub lives : last.lives ≡ t.lives
  pub start : last.start ≡ t.start

-- a round more
pub a_round : (names : List (List ℕ)) (k k' : ℕ) (done : List Line) (told : List Step) (n : ℕ) (t : Told) (l : Line) (ls : List Line) → AreNames names → length names ≤ 64 → Between names k done told n t → n + 1 < 2 ^ 64 → AllByRecursion (Sayable names) (l ∷ ls) → AreCounted done (l ∷ ls) → MaySpeak None [] (speakers (l ∷ ls)) → Climbs k (speakers (l ∷ ls)) k' →
    Rounded names k' (done ++ l ∷ ls) (told ++ steps.Round (n + 1) (l ∷ ls) ∷ []) (n + 1) t
a_round names k k' done told n t l ls a few b small y e m c =
    let x : Item = items.round (n + 1) in
    let mid : Told = after t x in
    let s : SoFar names b.known b.rest done mid = record { split = b.so_far.split; told = b.so_far.told; lengths = b.so_far.lengths; counts = b.so_far.counts } in
    let w = lines_of_round names b.known b.rest done mid l ls k' a few s refl y e m (subst (λ i. Climbs i (speakers (l ∷ ls)) k') (sym b.count) c) in
    let first : Follows t x mid = record { stands = b.begins; rule = (refl, ap (λ i. i + 1) (sym b.round), small); told = refl } in
    record {
      last = w.last;
      reach = follows_on t mid w.last x first w.reach;
      between = record {
        known = w.known;
        rest = w.rest;
        count = w.count;
        so_far = w.so_far;
        begins = ap begins_step w.stage;
        steps = ap (λ st. steps_told st w.last) w.stage ∙ ap (λ ss. ss ++ steps.Round w.last.round w.last.lines ∷ []) (w.same.steps ∙ b.steps) ∙ ap (λ i. told ++ steps.Round i w.last.lines ∷ []) w.same.round ∙ ap (λ ks. told ++ steps.Round (n + 1) ks ∷ []) w.told;
        round = w.same.round;
      };
      lives = w.same.lives;
      start = w.same.start;
    }

-- a dump more
pub a_dump : (names : List (List ℕ)) (k : ℕ) (done : List Line) (told : List Step) (n : ℕ) (t : Told) (what : DumpOf) (at size : ℕ) (reply : Reply) → AreNames names → Between names k done told n t → FitsDump what at size → FitsDumpReply reply →
    Rounded names k done (told ++ steps.Dump what at size reply ∷ []) n t
a_dump names k done told n t what at size reply a b fits answer =
    let step : Step = steps.Dump what at size reply in
    let mid : Told = after t (items.step step) in
    let are : AreNames b.known = front_names b.known b.rest (subst AreNames b.so_far.split a) in
    let first : Follows t (items.step step) mid = record { stands = b.begins; rule = (refl, subst AreNames (sym b.so_far.told) are, (fits, answer)); told = refl } in
    record {
      last = mid;
      reach = follows_on t mid mid (items.step step) first (stays mid);
      between = record {
        known = b.known;
        rest = b.rest;
        count = b.count;
        so_far = record { split = b.so_far.split; told = b.so_far.told; lengths = b.so_far.lengths; counts = b.so_far.counts };
        begins = refl;
        steps = ap (λ ss. ss ++ step ∷ []) b.steps;
        round = b.round;
      };
      lives = refl;
      start = refl;
    }

-- whom a checkpoint's reply names is known
reply_named : (known : List (List ℕ)) (reply : Reply) → AreNames known → length known ≤ 64 → FitsCheckpointReply known reply → AreNamed known (session_of (steps.Checkpoint reply)) known
reply_named known (replies.Pending session refusal) are few f = known_named known session are few f.0
reply_named known replies.Done are few f = refl
reply_named known (replies.Refused refusal) are few f = refl
reply_named known reply are few f = absurd f

-- a checkpoint more
pub a_checkpoint : (names : List (List ℕ)) (k : ℕ) (done : List Line) (told : List Step) (n : ℕ) (t : Told) (reply : Reply) → AreNames names → length names ≤ 64 → (b : Between names k done told n t) → FitsCheckpointReply b.known reply →
    Rounded names k done (told ++ steps.Checkpoint reply ∷ []) n t
a_checkpoint names k done told n t reply a few b answer =
    let step : Step = steps.Checkpoint reply in
    let mid : Told = after t (items.step step) in
    let are : AreNames b.known = front_names b.known b.rest (subst AreNames b.so_far.split a) in
    let short : length b.known ≤ 64 = let l = ap length b.so_far.split in omega (arith, l, few, length-append b.known b.rest) in
    let named : AreNamed t.names (session_of step) t.names = subst (λ ns. AreNamed ns (session_of step) ns) (sym b.so_far.told) (reply_named b.known reply are short answer) in
    let first : Follows t (items.step step) mid = record { stands = b.begins; rule = (named, subst AreNames (sym b.so_far.told) are, subst (λ ns. FitsCheckpointReply ns reply) (sym b.so_far.told) answer); told = refl } in
    record {
      last = mid;
      reach = follows_on t mid mid (items.step step) first (stays mid);
      between = record {
        known = b.known;
        rest = b.rest;
        count = b.count;
        so_far = record { split = b.so_far.split; told = b.so_far.told; lengths = b.so_far.lengths; counts = b.so_far.counts };
        begins = refl;
        steps = ap (λ ss. ss ++ step ∷ []) b.steps;
        round = b.round;
      };
      lives = refl;
      start = refl;
    }

-- ---- behind the steps

pub events_reach : (t : Told) (es : List Event) → t.stage ≡ stages.History → AreNames t.names → length t.names ≤ 64 → AllByRecursion (FitsEvent t.names) es → Reaches t (record t { events = t.events ++ es })
events_reach t [] st a few f = subst (λ l. Reaches t (record t { events = l })) (sym (append-nil t.events)) (stays t)
events_reach t (e ∷ es) st a few f =
    let mid : Told = record t { events = t.events ++ e ∷ [] } in
    let fb = fits_by t.names e f.0 in
    let first : Follows t (items.event e) mid = record { stands = rw st refl; rule = (known_named t.names (by_of e).session a few fb.session, f.0); told = refl } in
    subst (λ l. Reaches t (record t { events = l })) (append_assoc t.events (e ∷ []) es)
    (follows_on t mid (record mid { events = mid.events ++ es }) (items.event e) first (events_reach mid es st a few f.1))

pub records_reach : (t : Told) (rs : List Rec) (n : ℕ) → t.stage ≡ stages.Log → n ≡ t.start.from + length t.recs → n + length rs < 2 ^ 64 → AreNumbered n rs → Reaches t (record t { recs = t.recs ++ rs })
records_reach t [] n st e l f = subst (λ rs. Reaches t (record t { recs = rs })) (sym (append-nil t.recs)) (stays t)
records_reach t (r ∷ rs) n st e l f =
    let mid : Told = record t { recs = t.recs ++ r ∷ [] } in
    let first : Follows t (items.logged n r) mid = record { stands = rw st refl; rule = (refl, e, omega arith, f.0); told = refl } in
    let on : suc n ≡ t.start.from + length (t.recs ++ r ∷ []) = let k = length_push t.recs r in omega arith in
    subst (λ l. Reaches t (record t { recs = l })) (append_assoc t.recs (r ∷ []) rs)
    (follows_on t mid (record mid { recs = mid.recs ++ rs }) (items.logged n r) first (records_reach mid rs (suc n) st on (omega arith) f.1))

pub multis_reach : (t : Told) (es : List MultiEvent) → t.stage ≡ stages.Multis → AreNames t.names → length t.names ≤ 64 → AllByRecursion (FitsMultiEvent t.names) es → Reaches t (record t { multis = t.multis ++ es })
multis_reach t [] st a few f = subst (λ l. Reaches t (record t { multis = l })) (sym (append-nil t.multis)) (stays t)
multis_reach t (e ∷ es) st a few f =
    let mid : Told = record t { multis = t.multis ++ e ∷ [] } in
    let fb = multi_fits_by t.names e f.0 in
    let first : Follows t (items.multi e) mid = record { stands = rw st refl; rule = (known_named t.names (multi_by e).session a few fb.session, f.0); told = refl } in
    subst (λ l. Reaches t (record t { multis = l })) (append_assoc t.multis (e ∷ []) es)
    (follows_on t mid (record mid { multis = mid.multis ++ es }) (items.multi e) first (multis_reach mid es st a few f.1))
