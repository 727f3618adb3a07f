-- What holds of a generated script as a whole.
use Rattle.std.proofs.Common.{◌≡◌, ℕ, ◌<◌, ◌≤◌, min, zero, suc, List, [], ◌∷◌, codes, length, map, take, refl, sym, ap, subst, arith, true, ◌∙◌, inl, inr}
use Rattle.std.proofs.lemmas.List.{take_min}
use Rattle.std.specs.List.{AllByRecursion, IsDistinct}
use Rattle.tx_events.proofs.ListSteps.{le_or_over}
use Rattle.tx_events.specs.Base.{IsBase}
use Rattle.tx_events.specs.Events.{same_name}
use Rattle.tx_events.specs.Names.{is_name}
use Rattle.tx_model.specs.declared.command.Command.{Command}
use Rattle.tx_model.specs.declared.command.Command.TheVariants as commands
use Rattle.script_lines.proofs.Bases.{passes_base}
use Rattle.script_lines.specs.Header.{base_of, is_base, no_header}
use Rattle.session_lang.specs.Plain.{IsItem}
use Rattle.session_lang.proofs.PlainText.{plain_text_read}
use Rattle.run_law.proofs.Lives.{all_may_stand}
use Rattle.script_gen.specs.Choices.{drawn_from}
use Rattle.script_gen.specs.Generated.{generated, items_from, session_names}
use Rattle.script_gen.specs.Laws.{GeneratedScriptsAreSound, GeneratedScriptsRun, GeneratedTextsAreRead, generated_text}
use Rattle.script_gen.proofs.Bounds.{few_items}
use Rattle.script_gen.proofs.Levels.{all_places, drawn_in_range, few_takers, items_run}
use Rattle.script_gen.proofs.Ranges.{IsDrawn, each_item}
use Rattle.script_gen.proofs.RoundSizes.{rounds_short}
use Rattle.script_gen.proofs.Sessions.{names_count, sessions_numbered}

base_is : IsBase (base_of no_header)
unfolding no_header is_base
base_is = passes_base (base_of no_header) refl

-- ---- names: one to four, or none

few_names : (P : List (List ℕ) → Type 0) (size : ℕ) → size < 4 → P (session_names 0) → P (session_names 1) → P (session_names 2) → P (session_names 3) → P (session_names size)
few_names P zero l p0 p1 p2 p3 = p0
few_names P (suc zero) l p0 p1 p2 p3 = p1
few_names P (suc (suc zero)) l p0 p1 p2 p3 = p2
few_names P (suc (suc (suc zero))) l p0 p1 p2 p3 = p3
few_names P (suc (suc (suc (suc n)))) l p0 p1 p2 p3 = absurd (omega arith)

all_names : (P : List (List ℕ) → Type 0) (size : ℕ) → P (session_names 0) → P (session_names 1) → P (session_names 2) → P (session_names 3) → P (session_names 4) → P (session_names size)
all_names P size p0 p1 p2 p3 p4 = elim (le_or_over 4 size) [ inl l ↦ subst P (sym (four l)) p4 | inr l ↦ few_names P size l p0 p1 p2 p3 ]
  where
    four : 4 ≤ size → session_names size ≡ session_names 4
    four l =
        let most : min size 4 ≡ 4 = omega arith in
        ap (map (λ letter. letter ∷ [])) (sym (take_min size (codes "abcd")) ∙ ap (λ n. take n (codes "abcd")) most)

abbrev AreNames : List (List ℕ) → Type 0
AreNames names = AllByRecursion (λ name. is_name name ≡ true) names

names_are : (size : ℕ) → AreNames (session_names size)
names_are size = all_names AreNames size tt (refl, tt) (refl, (refl, tt)) (refl, (refl, (refl, tt))) (refl, (refl, (refl, (refl, tt))))

names_differ : (size : ℕ) → IsDistinct same_name (session_names size)
unfolding IsDistinct
names_differ size = all_names (IsDistinct same_name) size tt (tt, tt) ((refl, tt), (tt, tt)) ((refl, (refl, tt)), ((refl, tt), (tt, tt))) ((refl, (refl, (refl, tt))), ((refl, (refl, tt)), ((refl, tt), (tt, tt))))

-- ---- ranges

items_in_range : (seed size : ℕ) → size ≤ 100000 → AllByRecursion IsItem (items_from 0 (drawn_from 0 size seed))
items_in_range seed size few = each_item IsItem size few tt (λ i c l d. drawn_in_range c d) 0 size seed (omega arith)

-- ---- the laws

pub scripts_are_sound : GeneratedScriptsAreSound
unfolding generated
scripts_are_sound seed size l =
    let count = names_count size in
    let few = few_items seed size l in (
      record {
        base = base_is;
        names = all_places (λ name. is_name name ≡ true) (session_names size) (names_are size);
        distinct = names_differ size;
        numbered = sessions_numbered seed size;
        sessions = omega arith;
        commands = rounds_short seed size;
        few = omega arith;
      },
      items_in_range seed size l,
    )

pub scripts_run : GeneratedScriptsRun
unfolding generated no_header
scripts_run seed size l =
    let count = names_count size in
    let few = few_items seed size l in
    let all = items_run seed size l in
    record {
      runnable = record { base = base_is; items = all_may_stand (length (session_names size)) (items_from 0 (drawn_from 0 size seed)) all; sessions = omega arith; few = omega arith };
      items = all;
      banks = refl;
      few = few_takers seed size l;
    }

pub texts_are_read : GeneratedTextsAreRead
unfolding generated no_header
texts_are_read seed size l short =
    let sound = scripts_are_sound seed size l in
    plain_text_read no_header (generated seed size) (generated_text seed size) (record {
      text = refl;
      size = short;
      header = record { start = tt; oldest = tt; multi = tt; offset = tt; oldest_multi = tt; oldest_offset = tt; banks = tt };
      base = refl;
      banks = refl;
      items = sound.1;
      sound = sound.0;
    })
