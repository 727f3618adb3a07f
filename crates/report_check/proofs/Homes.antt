-- Where the multixacts were given that the log has recorded.
use Rattle.std.proofs.Common.{◌≡◌, ℕ, suc, ◌+◌, ◌<◌, Bool, true, false, List, [], ◌∷◌, ◌++◌, Option, Some, None, length, map, take, refl, sym, ap, ◌∙◌, arith, append_assoc}
use Rattle.std.specs.Bool.{then_some}
use Rattle.std.specs.List.{cons_option, filter_map, list_any}
use Rattle.std.specs.Option.{option_map}
use Rattle.std.proofs.lemmas.List.{length-take-le}
use Rattle.std.proofs.lemmas.List.Elements.{filter_map-append}
use Rattle.tx_events.specs.declared.multi.MultiEvent.{MultiEvent}
use Rattle.tx_events.specs.declared.multi.MultiEvent.TheVariants as events
use Rattle.tx_events.specs.declared.record.Rec.{Rec}
use Rattle.report_law.specs.Records.{is_same_multi}
use Rattle.history_places.specs.declared.start.Start.{Start}
use Rattle.multi_rules.specs.declared.homes.Home.{Home}
use Rattle.report_check.specs.Keeping.{kept_home, kept_homes, kept_start, start_at}

pub start_home : (recs : List Rec) (life place : ℕ) (e : MultiEvent) → kept_start recs e ≡ option_map start_at (kept_home recs life place e)
start_home recs life place (events.Gen by multi offset members) = both (list_any (is_same_multi multi) recs)
  where
    home : Home
    home = record { multi = multi; offset = offset; life = life; event = place }

    both : (b : Bool) → then_some b (start_at home) ≡ option_map start_at (then_some b home)
    both true = refl
    both false = refl
start_home recs life place (events.Hold by multi) = refl
start_home recs life place (events.Unhold by multi) = refl
start_home recs life place (events.Raise by multi offset) = refl

pub start_some : (recs : List Rec) (life place : ℕ) (e : MultiEvent) (home : Home) → kept_home recs life place e ≡ Some home → kept_start recs e ≡ Some (start_at home)
start_some recs life place e home k = start_home recs life place e ∙ ap (option_map start_at) k

pub start_none : (recs : List Rec) (life place : ℕ) (e : MultiEvent) → kept_home recs life place e ≡ None → kept_start recs e ≡ None
start_none recs life place e k = start_home recs life place e ∙ ap (option_map start_at) k

homes_append : (recs : List Rec) (life n : ℕ) (xs ys : List MultiEvent) → kept_homes recs life n (xs ++ ys) ≡ kept_homes recs life n xs ++ kept_homes recs life (n + length xs) ys
homes_append recs life n [] ys = ap (λ k. kept_homes recs life k ys) (let z : n ≡ n + 0 = omega arith in z)
homes_append recs life n (x ∷ xs) ys =
    let z : (n + 1) + length xs ≡ n + suc (length xs) = omega arith in
    ap (λ (t : List Home). cons_option (kept_home recs life n x) t) (homes_append recs life (n + 1) xs ys ∙ ap (λ k. kept_homes recs life (n + 1) xs ++ kept_homes recs life k ys) z)
    ∙ join (kept_home recs life n x) (kept_homes recs life (n + 1) xs) (kept_homes recs life (n + suc (length xs)) ys)
  where
    join : (o : Option Home) (a b : List Home) → cons_option o (a ++ b) ≡ cons_option o a ++ b
    join None a b = refl
    join (Some h) a b = refl

-- one event more
pub homes_more : (recs : List Rec) (life i : ℕ) (es : List MultiEvent) (e : MultiEvent) (old new start : List Home) → i < length es → take (i + 1) es ≡ take i es ++ e ∷ [] → old ≡ start ++ kept_homes recs life 0 (take i es)
    → new ≡ old ++ cons_option (kept_home recs life i e) [] → new ≡ start ++ kept_homes recs life 0 (take (i + 1) es)
homes_more recs life i es e old new start l one so is =
    let size : length (take i es) ≡ i = length-take-le i es (omega arith) in
    let shift : 0 + length (take i es) ≡ i = omega arith in
    let more : kept_homes recs life 0 (take (i + 1) es) ≡ kept_homes recs life 0 (take i es) ++ cons_option (kept_home recs life i e) [] =
    ap (kept_homes recs life 0) one ∙ homes_append recs life 0 (take i es) (e ∷ []) ∙ ap (λ k. kept_homes recs life 0 (take i es) ++ kept_homes recs life k (e ∷ [])) shift in
    is ∙ ap (λ (t : List Home). t ++ cons_option (kept_home recs life i e) []) so ∙ append_assoc start (kept_homes recs life 0 (take i es)) (cons_option (kept_home recs life i e) [])
    ∙ ap (λ (t : List Home). start ++ t) (sym more)

pub starts_more : (recs : List Rec) (i : ℕ) (es : List MultiEvent) (e : MultiEvent) (old new start : List Start) → take (i + 1) es ≡ take i es ++ e ∷ [] → old ≡ start ++ filter_map (kept_start recs) (take i es)
    → new ≡ old ++ cons_option (kept_start recs e) [] → new ≡ start ++ filter_map (kept_start recs) (take (i + 1) es)
starts_more recs i es e old new start one so is =
    let more : filter_map (kept_start recs) (take (i + 1) es) ≡ filter_map (kept_start recs) (take i es) ++ cons_option (kept_start recs e) [] =
    ap (filter_map (kept_start recs)) one ∙ filter_map-append (kept_start recs) (take i es) (e ∷ []) in
    is ∙ ap (λ (t : List Start). t ++ cons_option (kept_start recs e) []) so ∙ append_assoc start (filter_map (kept_start recs) (take i es)) (cons_option (kept_start recs e) [])
    ∙ ap (λ (t : List Start). start ++ t) (sym more)

-- ---- they are those of the starts

pub homes_starts : (recs : List Rec) (life n : ℕ) (es : List MultiEvent) → map start_at (kept_homes recs life n es) ≡ filter_map (kept_start recs) es
homes_starts recs life n [] = refl
homes_starts recs life n (e ∷ es) =
    one (kept_home recs life n e) (kept_homes recs life (n + 1) es) ∙ ap (λ (t : List Start). cons_option (option_map start_at (kept_home recs life n e)) t) (homes_starts recs life (n + 1) es)
    ∙ ap (λ (o : Option Start). cons_option o (filter_map (kept_start recs) es)) (sym (start_home recs life n e))
  where
    one : (o : Option Home) (t : List Home) → map start_at (cons_option o t) ≡ cons_option (option_map start_at o) (map start_at t)
    one None t = refl
    one (Some h) t = refl
