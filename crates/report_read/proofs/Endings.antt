-- From each place a report can be ended.
use Rattle.std.proofs.Common.{◌≡◌, ℕ, ◌+◌, ◌≤◌, ◌<◌, ◌^◌, List, [], ◌∷◌, ◌++◌, true, None, inr, refl, sym, ap, subst, arith, length, get_or, codes}
use Rattle.std.specs.List.{IsDistinct}
use Rattle.tx_events.specs.Base.{first_base}
use Rattle.tx_model.specs.declared.command.Command.TheVariants as commands
use Rattle.tx_model.specs.declared.report.Line.{Line}
use Rattle.tx_model.specs.declared.reply.Reply.TheVariants as replies
use Rattle.report_words.specs.Fits.{FitsCounters}
use Rattle.report_words.proofs.Places.{place_again}
use Rattle.report_lines.specs.declared.life.Start.{Start}
use Rattle.report_lines.specs.declared.life.LogHead.{LogHead}
use Rattle.report_read.specs.Item.{Item}
use Rattle.report_read.specs.Item as items
use Rattle.report_read.specs.Grammar.{Follows, IsNamed, after, begins_step, item_line, noted}
use Rattle.report_read.specs.Taking.{AreFew}
use Rattle.report_read.specs.declared.told.Stage.{Stage}
use Rattle.report_read.specs.declared.told.Stage.TheVariants as stages
use Rattle.report_read.specs.declared.told.Told.{Told}
use Rattle.report_read.proofs.Runs.{IsRest}

-- some text ends the report
pub record Ends (t : Told) : Type 0 where
  pub text : List ℕ
  pub rest : IsRest t text

ends_behind : (t : Told) (x : Item) (m : Told) → Follows t x m → Ends m → Ends t
ends_behind t x m f e = record { text = item_line m.names x ++ e.text; rest = record { run = (x, m) ∷ e.rest.run; last = e.rest.last; goes = (f, e.rest.goes); closed = e.rest.closed; is = ap (λ u. item_line m.names x ++ u) e.rest.is } }

end_closed : (t : Told) → t.stage ≡ stages.Closed → Ends t
end_closed t s = record { text = []; rest = record { run = []; last = t; goes = refl; closed = s; is = refl } }

end_log : (t : Told) → t.stage ≡ stages.Log → Ends t
end_log t s = ends_behind t items.last (after t items.last) (record { stands = rw s refl; rule = refl; told = refl }) (end_closed (after t items.last) refl)

end_multis : (t : Told) → t.stage ≡ stages.Multis → Ends t
end_multis t s =
    let h : LogHead = record { flushed = 0; end = 0 } in
    ends_behind t (items.log h) (after t (items.log h)) (record { stands = rw s refl; rule = (refl, record { flushed = omega arith; end = omega arith }); told = refl }) (end_log (after t (items.log h)) refl)

end_history : (t : Told) → t.stage ≡ stages.History → Ends t
end_history t s = ends_behind t items.multis (after t items.multis) (record { stands = rw s refl; rule = refl; told = refl }) (end_multis (after t items.multis) refl)

end_steps : (t : Told) → begins_step t.stage ≡ true → Ends t
end_steps t s = ends_behind t items.history (after t items.history) (record { stands = s; rule = refl; told = refl }) (end_history (after t items.history) refl)

first_fits : FitsCounters first_base
unfolding first_base
first_fits = record { next = (omega arith, inr (omega arith)); oldest = (omega arith, inr (omega arith)); multi = (omega arith, omega arith); offset = omega arith; oldest_multi = (omega arith, omega arith); oldest_offset = omega arith }

end_between : (t : Told) → length t.lives + 1 < 2 ^ 64 → t.stage ≡ stages.Between → Ends t
end_between t l s =
    let h : Start = record { from = 0; base = first_base } in
    let x : Item = items.life (length t.lives + 1) h in
    ends_behind t x (after t x) (record { stands = rw s refl; rule = (refl, refl, l, record { from = omega arith; base = first_fits }); told = refl }) (end_steps (after t x) refl)

end_opening : (t : Told) → t.stage ≡ stages.Opening → Ends t
end_opening t s = ends_behind t items.title (after t items.title) (record { stands = rw s refl; rule = refl; told = refl }) (end_between (after t items.title) (omega arith) refl)

-- the first session, or a first one, begins a transaction
begin_line : ℕ → Line
begin_line n = record { by = record { session = 0; command = n }; command = commands.Begin; reply = replies.Done }

some_named : (n : List ℕ) (ns : List (List ℕ)) → AreFew (n ∷ ns) → IsNamed (n ∷ ns) 0 (n ∷ ns)
some_named n ns a =
    let l : 0 < length (n ∷ ns) = omega arith in
    record { within = l; noted = sym (ap (noted (n ∷ ns) n) (place_again (n ∷ ns) 0 a.are.distinct l)); few = a.few; are = a.are }

none_named : IsNamed [] 0 (codes "a" ∷ [])
unfolding IsDistinct
none_named = record { within = omega arith; noted = refl; few = omega arith; are = record { each = (refl, tt); distinct = (tt, tt) } }

end_silent : (t : Told) (names : List (List ℕ)) → get_or t.counts 0 0 + 1 < 2 ^ 64 → t.stage ≡ stages.Silent → t.speaker ≡ None → t.spoken ≡ [] → IsNamed t.names 0 names → Ends t
unfolding begin_line
end_silent t names l s p q n =
    let x : Item = items.command (begin_line (get_or t.counts 0 0 + 1)) in
    let m : Told = record (after t x) { names = names } in
    ends_behind t x m (record {
      stands = rw s refl;
      rule = (n, record { by = record { session = n.within; command = l }; command = tt; reply = refl }, refl, rw (p, q) refl);
      told = refl;
    }) (end_steps m refl)

pub silent_names : (t : Told) → AreFew t.names → get_or t.counts 0 0 + 1 < 2 ^ 64 → t.stage ≡ stages.Silent → t.speaker ≡ None → t.spoken ≡ [] → Ends t
silent_names t a l s p q = by_names t.names refl
  where
    by_names : (ns : List (List ℕ)) → t.names ≡ ns → Ends t
    by_names [] e = end_silent t (codes "a" ∷ []) l s p q (subst (λ ns. IsNamed ns 0 (codes "a" ∷ [])) (sym e) none_named)
    by_names (n ∷ ns) e = end_silent t (n ∷ ns) l s p q (subst (λ ms. IsNamed ms 0 (n ∷ ns)) (sym e) (some_named n ns (subst AreFew e a)))

-- what is kept while lines are taken, n of them
pub record IsSound (t : Told) (n : ℕ) : Type 0 where
  pub names : AreFew t.names
  pub counts : get_or t.counts 0 0 ≤ n
  pub lives : length t.lives ≤ n
  pub silent : t.stage ≡ stages.Silent → (t.speaker ≡ None) × (t.spoken ≡ [])

pub ends : (t : Told) (n : ℕ) → IsSound t n → n + 1 < 2 ^ 64 → Ends t
ends t n i l = by_stage t.stage refl
  where
    by_stage : (s : Stage) → t.stage ≡ s → Ends t
    by_stage stages.Opening e = end_opening t e
    by_stage stages.Between e = let j = i.lives in end_between t (omega arith) e
    by_stage stages.Steps e = end_steps t (ap begins_step e)
    by_stage stages.Silent e = let j = i.counts in silent_names t i.names (omega arith) e (i.silent e).0 (i.silent e).1
    by_stage stages.Spoken e = end_steps t (ap begins_step e)
    by_stage stages.History e = end_history t e
    by_stage stages.Multis e = end_multis t e
    by_stage stages.Log e = end_log t e
    by_stage stages.Closed e = end_closed t e
