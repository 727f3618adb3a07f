-- The worked life is lawful.
use Rattle.std.proofs.Common.{◌==◌, ◌≡◌, ◌≢◌, ◌⊎◌, ℕ, zero, suc, ◌<◌, ◌≤◌, ◌+◌, List, [], ◌∷◌, ◌++◌, true, false, IsTrue, Contains, None, Some, refl, sym, ap, subst, inl, inr, ⊎_elim, arith, take, slice_get, drop, ◌∙◌}
use Rattle.std.proofs.lemmas.Bool.{false≢true}
use Rattle.std.proofs.lemmas.List.Elements.{All-from_recursion}
use Rattle.std.specs.List.{AllByRecursion, flat_map}
use Rattle.tx_events.specs.declared.event.By.{By}
use Rattle.tx_events.specs.declared.event.Event.TheVariants as events
use Rattle.tx_events.specs.declared.multi.Member.{Member}
use Rattle.tx_events.specs.declared.multi.MultiEvent.{MultiEvent}
use Rattle.tx_events.specs.declared.multi.MultiEvent.TheVariants as multis
use Rattle.tx_events.specs.declared.record.Counters.{Counters}
use Rattle.tx_events.specs.declared.record.Rec.{Rec}
use Rattle.tx_events.specs.declared.record.Rec.TheVariants as records
use Rattle.tx_events.specs.declared.refusal.Refusal.{Refusal}
use Rattle.tx_events.specs.declared.refusal.Refusal.TheVariants as refusals
use Rattle.tx_events.specs.Events.{by_of}
use Rattle.tx_events.specs.History.{ComesInTurn, IsLegal, MayCome}
use Rattle.tx_events.specs.Limits.{multi_warn_limit}
use Rattle.tx_events.specs.Multis.{AreLegalMultis, BaseOffset, InBase, MultiMayCome, oldest_multi}
use Rattle.tx_events.specs.Places.{EachPlace}
use Rattle.tx_events.specs.Running.{open_ids}
use Rattle.tx_events.proofs.ListSteps.{below_not}
use Rattle.tx_events.proofs.Membership.{Has, contains_has}
use Rattle.tx_model.specs.Asked as asked
use Rattle.tx_model.specs.Asked.{Asked}
use Rattle.tx_model.specs.Lines.{has_line, span_of}
use Rattle.tx_model.specs.Rounds.{StandFirst, lines_in}
use Rattle.tx_model.specs.declared.command.Command.TheVariants as commands
use Rattle.tx_model.specs.declared.reply.Verdict.TheVariants as verdicts
use Rattle.tx_model.specs.declared.report.Line.{Line}
use Rattle.life_law.proofs.ByPlace.{places}
use Rattle.life_law.specs.Checkpoints.{IsLawfulCheckpoint}
use Rattle.life_law.specs.Dumps.{IsLawfulBetween}
use Rattle.life_law.specs.Facts.{Facts}
use Rattle.life_law.specs.LawfulLife.{facts_of}
use Rattle.life_law.specs.LawfulMultis.{AreLawfulMultis, MultiComesInTurn, MultisStandFirst, is_ok_trim}
use Rattle.life_law.specs.LifeLog.{IsLogOf, IsMultisRecord, IsRecordOf, ends_top}
use Rattle.life_law.specs.Lines.{IsLawfulLine, IsLawfulRound}
use Rattle.life_law.specs.MultiLines.{IsMultiWarned, of_records}
use Rattle.life_law.specs.MultiPlaces.{has_multi_line, multi_span}
use Rattle.life_law.specs.MultiStanding.{gave_multi}
use Rattle.life_law.specs.Pending.{IsOpenAsTold, pending}
use Rattle.life_law.specs.Worked.{by_at, its_name}
use Rattle.report_law.specs.WorkedMultis.{IsLawfulWhereTold, as_written, both_records, committed_member, first_lines, its_base, its_events, its_multis, later_member, look_at, lost_member, second_lines, worked_life}

-- ---- its histories

it_is_legal : IsLegal its_base its_events
it_is_legal = record {
  rules = places (MayCome its_base) its_events (refl, tt);
  turns = places ComesInTurn its_events (All-from_recursion (λ f. (by_of f).command ≤ 1) [] tt, tt);
}

abbrev all : List MultiEvent
all = its_multis 2

are_legal : (known : BaseOffset) → AreLegalMultis its_base known all
are_legal known = places (MultiMayCome its_base known) all (record { next = refl; below_stop = omega arith; first = refl; fit = record { some = omega arith; most = omega arith; updaters = omega arith }; below_member_stop = omega arith }, (record { not_older = omega arith; given = omega arith }, ((0, omega arith, refl), (record { next = refl; below_stop = omega arith; first = refl; fit = record { some = omega arith; most = omega arith; updaters = omega arith }; below_member_stop = omega arith }, (record { not_older = omega arith; given = omega arith }, ((0, omega arith, refl), tt))))))

apart : ◌≡◌ {A = ℕ} 0 1 → 2 ≤ 1
apart q = absurd (omega (arith, q))

far : ◌≡◌ {A = ℕ} 0 1 → 3 ≤ 1
far q = absurd (omega (arith, q))

in_turns : EachPlace all MultiComesInTurn
in_turns = places MultiComesInTurn all (tt, ((λ q. omega arith, tt), ((λ q. omega arith, (λ q. omega arith, tt)), ((apart, (far, (far, tt))), ((λ q. omega arith, (λ q. omega arith, (λ q. omega arith, (λ q. omega arith, tt)))), ((λ q. omega arith, (λ q. omega arith, (λ q. omega arith, (λ q. omega arith, (λ q. omega arith, tt))))), tt))))))

-- none is given near the limit
pub not_warned : (by : By) (multi : ℕ) → multi ≤ 2 → IsMultiWarned its_base all by multi → ⊥
not_warned by multi small w = early w.place w.given w.late
  where
    low : multi_warn_limit 1 ≤ multi → ⊥
    low late = absurd (omega (arith, late, small))

    early : (p : ℕ) → slice_get all p ≡ Some (multis.Gen by multi w.offset w.members) → multi_warn_limit (oldest_multi 1 (take p all)) ≤ multi → ⊥
    early zero at late = low late
    early (suc zero) at late = low late
    early (suc (suc zero)) at late = low late
    early (suc (suc (suc zero))) at late = low late
    early (suc (suc (suc (suc zero)))) at late = low late
    early (suc (suc (suc (suc (suc zero))))) at late = low late
    early (suc (suc (suc (suc (suc (suc p)))))) at late = absurd cc

-- ---- its log

abbrev its_recs : List Rec
its_recs = records.Checkpoint 2 its_base ∷ both_records

abbrev IsMultiAt : ℕ → ℕ → Type 0
IsMultiAt i multi = ((i ≡ 0) × (multi ≡ 1)) ⊎ ((i ≡ 1) × (multi ≡ 2))

abbrev number_in : Rec → ℕ
number_in (records.Checkpoint number counters) = number
number_in rec = 0

abbrev first_record : Rec
first_record = records.Multi 1 1 (committed_member ∷ lost_member ∷ [])

abbrev second : Rec
second = records.Multi 2 3 (later_member ∷ [])

its_log : IsLogOf 2 its_base its_events all its_recs 3 142
its_log = record {
  rest = both_records;
  split = refl;
  begun = omega arith;
  within = omega arith;
  each = λ rec k. ⊎_elim
      (λ (e : first_record ≡ rec). subst (IsRecordOf its_base its_events all) e (by_at 0 2, (0, omega arith, refl)))
      (λ t. ⊎_elim (λ (e : second ≡ rec). subst (IsRecordOf its_base its_events all) e (by_at 1 1, (3, omega arith, refl))) (λ none. absurd none) t)
      (contains_has both_records rec k);
  once = λ i j id a b e f s t. absurd (no_end i a id e s);
  multi_once = λ i j multi a b e f s t. one (multi_at i a multi e s) (multi_at j b multi f t);
  numbered = own_number;
  committed = none_committed;
  count = omega arith;
  gate = omega arith;
}
  where
    no_end : (i : ℕ) (a : Rec) (id : ℕ) → slice_get both_records i ≡ Some a → ends_top a id → ⊥
    no_end zero a id e s = let is : a ≡ first_record = cc in subst (λ r. ends_top r id) is s
    no_end (suc zero) a id e s = let is : a ≡ second = cc in subst (λ r. ends_top r id) is s
    no_end (suc (suc i)) a id e s = absurd cc

    multi_at : (i : ℕ) (a : Rec) (multi : ℕ) → slice_get both_records i ≡ Some a → IsMultisRecord a multi → IsMultiAt i multi
    multi_at zero a multi e s = let is : a ≡ first_record = cc in let same : 1 ≡ multi = subst (λ r. IsMultisRecord r multi) is s in inl (refl, sym same)
    multi_at (suc zero) a multi e s = let is : a ≡ second = cc in let same : 2 ≡ multi = subst (λ r. IsMultisRecord r multi) is s in inr (refl, sym same)
    multi_at (suc (suc i)) a multi e s = absurd cc

    one : {i j multi : ℕ} → IsMultiAt i multi → IsMultiAt j multi → i ≡ j
    one {i} {j} {multi} k l = ⊎_elim
        (λ (a : (i ≡ 0) × (multi ≡ 1)). ⊎_elim (λ (b : (j ≡ 0) × (multi ≡ 1)). a.0 ∙ sym b.0) (λ (b : (j ≡ 1) × (multi ≡ 2)). let x = a.1 in let y = b.1 in absurd (omega arith)) l)
        (λ (a : (i ≡ 1) × (multi ≡ 2)). ⊎_elim (λ (b : (j ≡ 0) × (multi ≡ 1)). let x = a.1 in let y = b.1 in absurd (omega arith)) (λ (b : (j ≡ 1) × (multi ≡ 2)). a.0 ∙ sym b.0) l)
        k

    own_number : (place number : ℕ) (counters : Counters) → slice_get its_recs place ≡ Some (records.Checkpoint number counters) → number ≡ 2 + place
    own_number zero number counters e = let is : records.Checkpoint 2 its_base ≡ records.Checkpoint number counters = cc in sym (ap number_in is)
    own_number (suc zero) number counters e = absurd cc
    own_number (suc (suc zero)) number counters e = absurd cc
    own_number (suc (suc (suc place))) number counters e = absurd cc

    none_committed : (p top : ℕ) (by : By) → slice_get its_events p ≡ Some (events.Commit by top) → Contains (take 1 its_recs) (records.Commit top (drop 1 (open_ids by.session (take p its_events))))
    none_committed zero top by e = absurd cc
    none_committed (suc p) top by e = absurd cc

-- ---- its lines

abbrev first : List Line
first = first_lines verdicts.Hidden

abbrev later : List Line
later = second_lines 2

abbrev its_lines : List Line
its_lines = flat_map lines_in worked_life.steps

abbrev its_facts : Facts
its_facts = facts_of true 4 worked_life.life worked_life.steps

nil_cons : (x : ℕ) (xs : List ℕ) → [] ≡ x ∷ xs → ⊥
nil_cons x xs e = cc

no_refusal : (r : Refusal) → None ≡ Some r → ⊥
no_refusal r e = cc

others_open : (n : ℕ) → (0 == n) ≡ false → open_ids n its_events ≡ []
others_open n q = rw q refl

others_pending : (n : ℕ) → (0 == n) ≡ false → (1 == n) ≡ false → pending its_recs its_events its_lines n ≡ None
others_pending n q r = rw (q, r) refl

nothing_open : (n : ℕ) → open_ids n its_events ≡ [] → pending its_recs its_events its_lines n ≡ None → IsOpenAsTold its_recs its_events its_lines n
nothing_open n none still = record {
  commit = λ top subs k e. absurd (nil_cons top subs (sym none ∙ e));
  abort = λ top subs k e. absurd (nil_cons top subs (sym none ∙ e));
  recorded = λ e. absurd (no_refusal refusals.CommitPending (sym still ∙ e));
}

its_open : (session : ℕ) → IsOpenAsTold its_recs its_events its_lines session
its_open zero = nothing_open 0 refl refl
its_open (suc zero) = nothing_open 1 refl refl
its_open (suc (suc n)) =
    let not_first : (0 == suc (suc n)) ≡ false = below_not 0 (suc (suc n)) (omega arith) in
    let not_second : (1 == suc (suc n)) ≡ false = below_not 1 (suc (suc n)) (omega arith) in
    nothing_open (suc (suc n)) (others_open (suc (suc n)) not_first) (others_pending (suc (suc n)) not_first not_second)

its_turns : (n : ℕ) → StandFirst its_events (flat_map lines_in (take n worked_life.steps))
its_turns zero = record { first = []; behind = its_events; split = refl; theirs = All-from_recursion (λ e. IsTrue (has_line [] e)) [] tt; others = All-from_recursion (λ e. has_line [] e ≡ false) its_events (refl, tt) }
its_turns (suc n) = record {
  first = its_events;
  behind = [];
  split = refl;
  theirs = All-from_recursion (λ e. IsTrue (has_line (flat_map lines_in (take (suc n) worked_life.steps)) e)) its_events (refl, tt);
  others = All-from_recursion (λ e. has_line (flat_map lines_in (take (suc n) worked_life.steps)) e ≡ false) [] tt;
}

abbrev front : List MultiEvent
front = take 3 all

abbrev behind : List MultiEvent
behind = drop 3 all

its_multi_turns : (n : ℕ) → MultisStandFirst all (flat_map lines_in (take n worked_life.steps))
its_multi_turns zero = record { first = []; behind = all; split = refl; theirs = All-from_recursion (λ e. IsTrue (has_multi_line [] e)) [] tt; others = All-from_recursion (λ e. has_multi_line [] e ≡ false) all (refl, (refl, (refl, (refl, (refl, (refl, tt)))))) }
its_multi_turns (suc zero) = record {
  first = front;
  behind = behind;
  split = refl;
  theirs = All-from_recursion (λ e. IsTrue (has_multi_line first e)) front (refl, (refl, (refl, tt)));
  others = All-from_recursion (λ e. has_multi_line first e ≡ false) behind (refl, (refl, (refl, tt)));
}
its_multi_turns (suc (suc n)) = record {
  first = all;
  behind = [];
  split = refl;
  theirs = All-from_recursion (λ e. IsTrue (has_multi_line (flat_map lines_in (take (suc (suc n)) worked_life.steps)) e)) all (refl, (refl, (refl, (refl, (refl, (refl, tt))))));
  others = All-from_recursion (λ e. has_multi_line (flat_map lines_in (take (suc (suc n)) worked_life.steps)) e ≡ false) [] tt;
}

none_trimmed : (l : Line) → Has its_lines l → is_ok_trim l ≡ true → ⊥
none_trimmed l k e = none its_lines (refl, (refl, (refl, (refl, (refl, tt))))) k
  where
    none : (ls : List Line) → AllByRecursion (λ x. is_ok_trim x ≡ false) ls → Has ls l → ⊥
    none [] a h = h
    none (x ∷ ls) a h = ⊎_elim (λ (q : x ≡ l). false≢true (sym (subst (λ y. is_ok_trim y ≡ false) q a.0) ∙ e)) (λ t. none ls a.1 t) h

are_lawful : AreLawfulMultis its_facts worked_life.steps
are_lawful = record {
  legal = are_legal (InBase its_base);
  by_records = λ t. are_legal (of_records its_base []);
  turns = in_turns;
  in_turn = its_multi_turns;
  no_other = All-from_recursion (λ e. IsTrue (has_multi_line its_lines e)) all (refl, (refl, (refl, (refl, (refl, (refl, tt))))));
  trims = record { callers = []; each = λ l c e. absurd (none_trimmed l (contains_has its_lines l c) e) };
}

-- the one that isn't there yet is of session 1, and this gives it in the same round
its_giver : (place offset : ℕ) (members : List Member) (giver : By) → slice_get all place ≡ Some (multis.Gen giver 2 offset members)
    → ((giver.session ≢ 0) × (3 ≤ place) × (place < 6)) ⊎ (gave_multi (first ++ []) giver ≡ false)
its_giver zero offset members giver at = absurd cc
its_giver (suc zero) offset members giver at = absurd cc
its_giver (suc (suc zero)) offset members giver at = absurd cc
its_giver (suc (suc (suc zero))) offset members giver at =
    let is : by_at 1 1 ≡ giver = cc in
    let other : 1 ≡ giver.session = ap (λ (b : By). b.session) is in
    inl (λ q. absurd (omega (arith, other, q)), omega arith, omega arith)
its_giver (suc (suc (suc (suc zero)))) offset members giver at = absurd cc
its_giver (suc (suc (suc (suc (suc zero))))) offset members giver at = absurd cc
its_giver (suc (suc (suc (suc (suc (suc p)))))) offset members giver at = absurd cc

first_round : IsLawfulRound its_facts [] first
first_round = places (λ earlier. IsLawfulLine its_facts (span_of its_events [] first) (multi_span all [] first) earlier) first (
  record { number = refl; events = refl; multi_events = refl; standing = refl; members = refl; logged = tt; reply = (refl, omega arith, 0, refl, refl) },
  (
    record {
      number = refl;
      events = refl;
      multi_events = (
        (committed_member ∷ lost_member ∷ [], refl),
        record {
          multi = 1;
          offset = 1;
          members = committed_member ∷ lost_member ∷ [];
          events_are = refl;
          told = (record { mode = refl; place = 0; read = (omega arith, omega arith); near = refl; normal = omega arith; given = omega arith }, (record { mode = refl; place = 0; read = (omega arith, omega arith); near = refl; normal = omega arith; given = omega arith }, tt));
        },
      );
      standing = refl;
      members = refl;
      logged = (committed_member ∷ lost_member ∷ [], (1, omega arith, refl));
      reply = (λ t. absurd (false≢true t), λ w. absurd (not_warned (by_at 0 2) 1 (omega arith) w));
    },
    (
      record {
        number = refl;
        events = refl;
        multi_events = (1, 1, (1, refl), refl, refl);
        standing = refl;
        members = refl;
        logged = tt;
        reply = (
          ((omega arith, inr (omega arith)), ((omega arith, inr (omega arith)), tt)),
          λ t. (
            1,
            refl,
            record {
              taken = 0;
              snapshot = (its_name, refl);
              multi = 1;
              pinned = 1;
              pin = refl;
              members = committed_member ∷ lost_member ∷ [];
              has = inl (0, omega arith, record { by = by_at 0 2; offset = 1; stands = refl });
              each = (record { mode = refl; id = refl; verdict = refl }, (record { mode = refl; id = refl; verdict = refl }, tt));
            },
          ),
        );
      },
      tt,
    ),
  ),
)

second_round : IsLawfulRound its_facts first later
second_round = places (λ earlier. IsLawfulLine its_facts (span_of its_events first later) (multi_span all first later) (first ++ earlier)) later (
  record {
    number = refl;
    events = refl;
    multi_events = (4, 2, (2, refl), refl, refl);
    standing = refl;
    members = refl;
    logged = tt;
    reply = (
      (omega arith, omega arith),
      λ t. record { pinned = 4; asked = 2; stands = refl; below = omega arith; whose = its_giver; unrecorded = λ low offset members c. absurd (omega (arith, low)) },
    );
  },
  (
    record {
      number = refl;
      events = refl;
      multi_events = (
        (later_member ∷ [], refl),
        record {
          multi = 2;
          offset = 3;
          members = later_member ∷ [];
          events_are = refl;
          told = (record { mode = refl; place = 1; read = (omega arith, omega arith); near = refl; normal = omega arith; given = omega arith }, tt);
        },
      );
      standing = refl;
      members = refl;
      logged = (later_member ∷ [], (2, omega arith, refl));
      reply = (λ t. absurd (false≢true t), λ w. absurd (not_warned (by_at 1 1) 2 (omega arith) w));
    },
    tt,
  ),
)

abbrev its_steps : List Asked
its_steps =
    asked.round ((0, commands.Snap its_name) ∷ (0, commands.Multi (as_written committed_member ∷ as_written lost_member ∷ [])) ∷ (0, look_at 1) ∷ [])
    ∷ asked.round ((0, look_at 2) ∷ (1, commands.Multi (as_written later_member ∷ [])) ∷ []) ∷ []

pub it_is_lawful : IsLawfulWhereTold worked_life
it_is_lawful = record {
  banks = 4;
  asked = its_steps;
  life = record {
    history = it_is_legal;
    told = (refl, refl, (refl, refl, tt));
    in_turn = its_turns;
    lawful = record {
      each = places (λ before step. IsLawfulRound its_facts (flat_map lines_in before) (lines_in step)) worked_life.steps (first_round, (second_round, tt));
      no_other = All-from_recursion (λ e. IsTrue (has_line its_lines e)) its_events (refl, tt);
    };
    dumps = places (λ before step. IsLawfulBetween its_facts (flat_map lines_in before) step) worked_life.steps (tt, (tt, tt));
    checkpoints = record {
      each = places (λ before step. IsLawfulCheckpoint its_facts (flat_map lines_in before) step) worked_life.steps (tt, (tt, tt));
      left = refl;
      flushed = refl;
    };
    multis = are_lawful;
    log = its_log;
    opened = its_open;
    log_fails_once = once;
  };
}
  where
    once : 0 ≤ 1
    once = omega arith
