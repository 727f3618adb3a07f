-- The tables, made.
use Rattle.std.proofs.Common.{◌≡◌, ℕ, suc, zero, ◌+◌, ◌<◌, ◌≤◌, List, [], ◌∷◌, length, get_or, map, ap, sym, subst, ◌∙◌, arith}
use Rattle.std.specs.Global.{Vec}
use Rattle.std.specs.List.{All, between, flat_map}
use Rattle.std.proofs.lemmas.Grind.{get_or_default_zero}
use Rattle.std.proofs.lemmas.List.{length-map}
use Rattle.tx_events.specs.declared.event.By.{By}
use Rattle.tx_model.specs.declared.report.Step.{Step}
use Rattle.tx_model.specs.Rounds.{lines_in}
use Rattle.place_columns.specs.declared.own.Own.{Own}
use Rattle.place_columns.specs.Owned.{AreAllOwn}
use Rattle.place_columns.specs.declared.lines.LineAt.{LineAt}
use Rattle.place_columns.specs.declared.lines.OwnLine.{OwnLine}
use Rattle.place_columns.specs.Lined.{AreInOrder, bys_of, line_by, lines_from, number_of, places_of}
use Rattle.place_columns.specs.Rows.{AreOwnLines, own_line}
use Rattle.place_columns.specs.Tables.{AreCounts, AreOwnEvents, IsLineTable}
use Rattle.place_columns.proofs.LineSteps.{bys_are}
use Rattle.place_columns.proofs.Numbering.{number_within}
use Rattle.place_columns.proofs.Rows.{as_many, own_lines_are}
use Rattle.place_columns.proofs.Slots.{slots_are, slots_from, slots_upto}

-- ---- lines

whose : (lines : List LineAt) (steps : List Step) → lines ≡ lines_from 0 steps → bys_of lines ≡ map line_by (flat_map lines_in steps)
whose lines steps is = ap (λ (t : List LineAt). bys_of t) is ∙ bys_are 0 steps

pub sessions_are : (lines : List LineAt) (steps : List Step) (bys : List By) (sessions : ℕ) → lines ≡ lines_from 0 steps → bys ≡ bys_of lines → All (λ b. b.session < sessions) (map line_by (flat_map lines_in steps)) → All (λ b. b.session < sessions) bys
sessions_are lines steps bys sessions is bys_is a = subst (λ (t : List By). All (λ b. b.session < sessions) t) (sym (bys_is ∙ whose lines steps is)) a

pub table_is : (lines table : List LineAt) (steps : List Step) (bys : List By) (sessions : ℕ) (places : List (Vec Own)) (own : List (Vec OwnLine)) → table ≡ lines → lines ≡ lines_from 0 steps → bys ≡ bys_of lines
    → All (λ b. b.session < sessions) (map line_by (flat_map lines_in steps)) → AreInOrder (map line_by (flat_map lines_in steps)) → AreAllOwn bys sessions places
    → map (λ (l : Vec OwnLine). map own_line l.items) own ≡ map (λ (l : Vec Own). l.items) places → IsLineTable table own
table_is lines table steps bys sessions places own same is bys_is a order o alike =
    let here : AreOwnLines (bys_of lines) own = subst (λ (t : List By). AreOwnLines t own) bys_is (own_lines_are bys sessions places own o alike) in
    let size : sessions ≡ length own = sym (as_many own places alike ∙ o.size) in
    subst (λ (t : List LineAt). IsLineTable t own) (sym same)
    (record {
      order = subst AreInOrder (sym (whose lines steps is)) order;
      within = subst (λ n. All (λ b. b.session < n) (bys_of lines)) size (subst (λ (t : List By). All (λ b. b.session < sessions) t) (sym (whose lines steps is)) a);
      listed = here;
    })

-- ---- events

pub numbers_upto : (lines : List LineAt) (bys : List By) (steps numbers : List ℕ) → steps ≡ map (λ (l : LineAt). l.step) lines → numbers ≡ map (number_of lines) bys → All (λ k. k ≤ length steps) numbers
numbers_upto lines bys steps numbers steps_is is =
    let size : length steps ≡ length lines = ap (λ (t : List ℕ). length t) steps_is ∙ length-map lines (λ (l : LineAt). l.step) in
    subst (λ n. All (λ k. k ≤ n) numbers) (sym size) (subst (λ (t : List ℕ). All (λ k. k ≤ length lines) t) (sym is) (each bys))
  where
    each : (bys : List By) → All (λ k. k ≤ length lines) (map (number_of lines) bys)
    each [] k d l = absurd (omega arith)
    each (b ∷ bys) zero d l = number_within lines b
    each (b ∷ bys) (suc k) d l = each bys k d (omega arith)

pub below_next : (steps numbers : List ℕ) (n : ℕ) → n ≡ length steps → All (λ k. k ≤ length steps) numbers → All (λ k. k < n + 1) numbers
below_next steps numbers n is a = λ k d l. let f = a k d l in omega arith

pub two_more : (steps numbers : List ℕ) (n : ℕ) → n ≡ length steps + 2 → All (λ k. k ≤ length steps) numbers → All (λ k. k + 1 < n) numbers
two_more steps numbers n is a = λ k d l. let f = a k d l in omega arith

-- ---- the places of a line

module _ (steps numbers ranks counts places reach latest : List ℕ) (own : AreOwnEvents steps numbers ranks counts places reach latest) (line : ℕ) (within : line ≤ length steps) where
  counted : AreCounts numbers (length counts) counts
  counted = subst (λ n. AreCounts numbers n counts) (sym own.counted.size) own.counted

  fewer : All (λ k. k + 1 < length counts) numbers
  fewer = two_more steps numbers (length counts) own.counted.size own.within

  inside : line + 1 < length counts
  inside = let s = own.counted.size in omega arith

  from_is : (from : ℕ) → from ≡ get_or counts line from → get_or counts line 0 ≡ from
  from_is from is = sym (is ∙ get_or_default_zero counts line from (let l = inside in omega arith))

  end_is : (end : ℕ) → end ≡ get_or counts (line + 1) end → get_or counts (line + 1) 0 ≡ end
  end_is end is = sym (is ∙ get_or_default_zero counts (line + 1) end inside)

  pub part_rises : (from end : ℕ) → from ≡ get_or counts line from → end ≡ get_or counts (line + 1) end → from ≤ end
  part_rises from end f e =
      let a = from_is from f in
      let b = end_is end e in
      let s = slots_from numbers counts ranks counted own.ranked fewer line inside in
      omega arith

  pub part_within : (end : ℕ) → end ≡ get_or counts (line + 1) end → end ≤ length places
  part_within end e =
      let b = end_is end e in
      let s = slots_upto numbers counts ranks counted own.ranked fewer line inside in
      let z = own.placed.size in
      omega arith

  pub part_is : (from end : ℕ) → from ≡ get_or counts line from → end ≡ get_or counts (line + 1) end → between from end places ≡ places_of line numbers
  part_is from end f e =
      ap (λ n. between n end places) (sym (from_is from f)) ∙ ap (λ n. between (get_or counts line 0) n places) (sym (end_is end e))
      ∙ slots_are numbers counts ranks counted own.ranked fewer places line own.placed inside
