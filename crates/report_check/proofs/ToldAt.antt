-- Where the line of a multixact event's command stands.
use Rattle.std.proofs.Common.{◌≡◌, ℕ, zero, suc, ◌+◌, ◌-◌, ◌<◌, ◌≤◌, ◌↔◌, Some, None, List, [], ◌∷◌, ◌++◌, length, get_or, map, take, refl, sym, ap, subst, ◌∙◌, ⊎_elim, arith, length-append, ◌==◌}
use Rattle.std.specs.Prelude.{slice_index}
use Rattle.std.specs.List.{count_by, flat_map, slice_get}
use Rattle.std.proofs.lemmas.Bool.{cases_lt}
use Rattle.std.proofs.lemmas.List.{length-map}
use Rattle.tx_events.specs.declared.event.By.{By}
use Rattle.tx_events.specs.declared.multi.MultiEvent.{MultiEvent}
use Rattle.tx_events.specs.Multis.{multi_by}
use Rattle.tx_model.specs.declared.report.Line.{Line}
use Rattle.tx_model.specs.declared.report.Step.{Step}
use Rattle.tx_model.specs.Lines.{has_line, span_of}
use Rattle.tx_model.specs.Replies.{RoundSpan}
use Rattle.tx_model.specs.Rounds.{lines_in}
use Rattle.event_rules.specs.Lined.{AreLinesInOrder, multis_in, number_at}
use Rattle.event_rules.specs.Told.{IsToldMulti}
use Rattle.event_rules.proofs.Standing.{at_number, in_order, number_stands}
use Rattle.event_rules.proofs.Telling.{rank_counts}
use Rattle.command_events.specs.Reached.{span}
use Rattle.place_columns.specs.OwnPlaces.{ArePlacesOf}
use Rattle.place_columns.specs.declared.lines.LineAt.{LineAt}
use Rattle.place_columns.specs.Lined.{bys_of, line_at, line_by, lines_from, number_of, places_of}
use Rattle.place_columns.proofs.LinePlaces.{its_places}
use Rattle.place_columns.proofs.LineSteps.{bys_are}
use Rattle.report_law.specs.Events.{StandsAt, rounds_before}
use Rattle.report_law.specs.Places.{multis_of}
use Rattle.report_law.specs.Steps.{HasFirstMultis, Judged, lines_of}
use Rattle.place_columns.proofs.Parts.{before_step}
use Rattle.report_check.proofs.Stepped.{at_table, count_few, count_rises, front_lines, next_lines}

number_there : (f : By → ℕ) (h : List MultiEvent) (p : ℕ) (e : MultiEvent) → slice_get h p ≡ Some e → get_or (map f (map multi_by h)) p 0 ≡ f (multi_by e)
number_there f [] p e at = absurd cc
number_there f (x ∷ h) zero e at = let same : x ≡ e = cc in ap (λ (y : MultiEvent). f (multi_by y)) same
number_there f (x ∷ h) (suc p) e at = number_there f h p e at

first_numbers : (f : By → ℕ) (h : List MultiEvent) (p : ℕ) → take p (map f (map multi_by h)) ≡ map f (map multi_by (take p h))
first_numbers f [] zero = refl
first_numbers f (x ∷ h) zero = refl
first_numbers f [] (suc p) = refl
first_numbers f (x ∷ h) (suc p) = ap (λ (t : List ℕ). f (multi_by x) ∷ t) (first_numbers f h p)

by_at : (lines : List Line) (n : ℕ) (l : Line) → slice_get lines n ≡ Some l → slice_get (map line_by lines) n ≡ Some l.by
by_at [] n l e = absurd cc
by_at (x ∷ lines) zero l e = let same : x ≡ l = cc in ap (λ (y : Line). Some y.by) same
by_at (x ∷ lines) (suc n) l e = by_at lines n l e

bound_of : {X : Type 0} (xs : List X) (i : ℕ) (x : X) → slice_get xs i ≡ Some x → i < length xs
bound_of [] i x e = absurd cc
bound_of (y ∷ xs) zero x e = omega arith
bound_of (y ∷ xs) (suc i) x e = let l = bound_of xs i x e in omega arith

module _ (j : Judged) (order : AreLinesInOrder j) where
  pub number_is : (place number : ℕ) (e : MultiEvent) → slice_index (multis_in j).numbers place ≡ number → slice_get j.life.multis place ≡ Some e → number ≡ number_of (lines_from 0 j.steps) (multi_by e)
  number_is place number e is at = sym is ∙ number_there (number_of (lines_from 0 j.steps)) j.life.multis place e at

  -- how many of the command's events stand before it
  pub rank_is : (place number : ℕ) (by : By) → slice_index (multis_in j).numbers place ≡ number → slice_get (bys_of (lines_from 0 j.steps)) number ≡ Some by
      → count_by (λ k. k == slice_index (multis_in j).numbers place) (take place (multis_in j).numbers) ≡ length (multis_of by (take place j.life.multis))
  rank_is place number by is line =
      let f = number_of (lines_from 0 j.steps) in
      ap (λ n. count_by (λ k. k == n) (take place (multis_in j).numbers)) is
      ∙ ap (λ (ks : List ℕ). count_by (λ k. k == number) ks) (first_numbers f j.life.multis place)
      ∙ rank_counts multi_by (lines_from 0 j.steps) number by (take place j.life.multis) (in_order j order) line

  pub its_places_are : (number : ℕ) (by : By) → slice_get (bys_of (lines_from 0 j.steps)) number ≡ Some by → ArePlacesOf by (map multi_by j.life.multis) (places_of number (multis_in j).numbers)
  its_places_are number by line p = its_places (lines_from 0 j.steps) number by (in_order j order) line (map multi_by j.life.multis) p

  pub number_within : (number : ℕ) (by : By) → slice_get (bys_of (lines_from 0 j.steps)) number ≡ Some by → number ≤ length (multis_in j).steps
  number_within number by line =
      let b = bound_of (bys_of (lines_from 0 j.steps)) number by line in
      let l = length-map (lines_from 0 j.steps) (λ (l : LineAt). l.by) in
      let s = length-map (lines_from 0 j.steps) (λ (l : LineAt). l.step) in
      omega arith

  -- ---- the line of this number, in its step

  module _ (number step : ℕ) (l : LineAt) (at : slice_get (lines_from 0 j.steps) number ≡ Some l) (step_is : l.step ≡ step) where
    stands_there : (by : By) (s : StandsAt j by) → number ≡ number_of (lines_from 0 j.steps) by → (step ≡ s.round) × (number ≡ length (rounds_before j by s) + s.place)
    stands_there by s is =
        let n : number ≡ number_at j by s = is ∙ number_stands j by s order in
        let here : slice_get (lines_from 0 j.steps) number ≡ Some (line_at (0 + s.round) s.line) = ap (λ k. slice_get (lines_from 0 j.steps) k) n ∙ at_table 0 j.steps s.round s.place s.step s.line s.told s.stands in
        let same : l ≡ line_at (0 + s.round) s.line = cc in
        let r : l.step ≡ 0 + s.round = ap (λ (x : LineAt). x.step) same in
        (omega arith, n)

    pub no_step : (by : By) (s : StandsAt j by) → number ≡ number_of (lines_from 0 j.steps) by → length j.steps ≤ step → ⊥
    no_step by s is past =
        let e = (stands_there by s is).0 in
        let b = bound_of j.steps s.round s.step s.told in
        omega arith

    module _ (first : ℕ) (first_is : first ≡ length (flat_map lines_in (take step j.steps))) (round : Step) (told : slice_get j.steps step ≡ Some round) where
      pub first_before : first ≤ number
      first_before =
          let b = before_step 0 step j.steps number l at in
          ⊎_elim (λ (u : number < first). let a = b.1 (omega arith) in absurd (omega arith)) (λ (u : first ≤ number). u) (cases_lt number first)

      in_step : (by : By) (s : StandsAt j by) → number ≡ number_of (lines_from 0 j.steps) by → (round ≡ s.step) × (number - first ≡ s.place)
      in_step by s is =
          let w = stands_there by s is in
          let there : slice_get j.steps step ≡ Some s.step = ap (λ k. slice_get j.steps k) w.0 ∙ s.told in
          let same : round ≡ s.step = cc in
          let f : first ≡ length (rounds_before j by s) = first_is ∙ ap (λ k. length (flat_map lines_in (take k j.steps))) w.0 in
          let n = w.1 in
          (same, omega arith)

      pub no_line : (by : By) (s : StandsAt j by) → number ≡ number_of (lines_from 0 j.steps) by → slice_get (lines_in round) (number - first) ≡ None → ⊥
      no_line by s is none =
          let w = in_step by s is in
          let there : slice_get (lines_in round) (number - first) ≡ Some s.line = ap (λ (x : Step). slice_get (lines_in x) (number - first)) w.0 ∙ ap (λ k. slice_get (lines_in s.step) k) w.1 ∙ s.stands in
          absurd cc

      module _ (line : Line) (stands : slice_get (lines_in round) (number - first) ≡ Some line) where
        pub its_by : slice_get (bys_of (lines_from 0 j.steps)) number ≡ Some line.by
        its_by =
            let l1 = first_before in
            let z : length (flat_map lines_in (take step j.steps)) + (number - first) ≡ number = omega arith in
            let there : slice_get (lines_of j) number ≡ Some line = ap (λ k. slice_get (lines_of j) k) (sym z) ∙ at_number j.steps step (number - first) round line told stands in
            ap (λ (bs : List By). slice_get bs number) (bys_are 0 j.steps) ∙ by_at (lines_of j) number line there

        module _ (end : ℕ) (end_is : end ≡ length (flat_map lines_in (take (step + 1) j.steps))) where
          pub rises : first ≤ end
          rises =
              let n : length (flat_map lines_in (take (step + 1) j.steps)) ≡ length (flat_map lines_in (take step j.steps) ++ lines_in round) = ap (λ (ls : List Line). length ls) (next_lines j.steps step round told) in
              let a = length-append (flat_map lines_in (take step j.steps)) (lines_in round) in
              omega arith

          module _ (from to : ℕ) (from_is : from ≡ count_by (has_line (take first (lines_of j))) j.life.events) (to_is : to ≡ count_by (has_line (take end (lines_of j))) j.life.events) where
            pub forward : (from ≤ to) × (to ≤ length j.life.events)
            forward =
                let a = count_rises first end (lines_of j) j.life.events rises in
                let b = count_few (has_line (take end (lines_of j))) j.life.events in
                (omega arith, omega arith)

            span_is : (by : By) (s : StandsAt j by) → number ≡ number_of (lines_from 0 j.steps) by → span from to ≡ span_of j.life.events (rounds_before j by s) (lines_in s.step)
            span_is by s is =
                let w = stands_there by s is in
                let r = in_step by s is in
                let a : take first (lines_of j) ≡ rounds_before j by s =
                ap (λ k. take k (lines_of j)) first_is ∙ front_lines step j.steps ∙ ap (λ k. flat_map lines_in (take k j.steps)) w.0 in
                let b : take end (lines_of j) ≡ rounds_before j by s ++ lines_in s.step =
                ap (λ k. take k (lines_of j)) end_is ∙ front_lines (step + 1) j.steps ∙ next_lines j.steps step round told
                ∙ ap (λ k. flat_map lines_in (take k j.steps) ++ lines_in round) w.0 ∙ ap (λ (x : Step). rounds_before j by s ++ lines_in x) r.0 in
                ap (λ n. span n to) (from_is ∙ ap (λ (ls : List Line). count_by (has_line ls) j.life.events) a)
                ∙ ap (λ n. span (count_by (has_line (rounds_before j by s)) j.life.events) n) (to_is ∙ ap (λ (ls : List Line). count_by (has_line ls) j.life.events) b)

            -- what is told of the line is what is told where the command stands
            pub told_same : (place : ℕ) (e : MultiEvent) (s : StandsAt j (multi_by e)) → number ≡ number_of (lines_from 0 j.steps) (multi_by e)
                → ((es : List MultiEvent) × HasFirstMultis j (span from to) line es × (slice_get es (length (multis_of line.by (take place j.life.multis))) ≡ Some e)) ↔ IsToldMulti j place e s
            told_same place e s is =
                let r = in_step (multi_by e) s is in
                let there : slice_get (lines_in round) (number - first) ≡ Some s.line = ap (λ (x : Step). slice_get (lines_in x) (number - first)) r.0 ∙ ap (λ k. slice_get (lines_in s.step) k) r.1 ∙ s.stands in
                let same : line ≡ s.line = cc in
                let by : line.by ≡ multi_by e = ap (λ (x : Line). x.by) same ∙ s.its in
                let sp = span_is (multi_by e) s is in (
                  λ z. (
                    z.0,
                    subst (λ (x : Line). HasFirstMultis j (span_of j.life.events (rounds_before j (multi_by e) s) (lines_in s.step)) x z.0) same (subst (λ (x : RoundSpan). HasFirstMultis j x line z.0) sp z.1),
                    subst (λ (b : By). slice_get z.0 (length (multis_of b (take place j.life.multis))) ≡ Some e) by z.2,
                  ),
                  λ z. (
                    z.0,
                    subst (λ (x : RoundSpan). HasFirstMultis j x line z.0) (sym sp) (subst (λ (x : Line). HasFirstMultis j (span_of j.life.events (rounds_before j (multi_by e) s) (lines_in s.step)) x z.0) (sym same) z.1),
                    subst (λ (b : By). slice_get z.0 (length (multis_of b (take place j.life.multis))) ≡ Some e) (sym by) z.2,
                  ),
                )
