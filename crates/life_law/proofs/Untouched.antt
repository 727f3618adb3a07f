-- The multixacts of a life that has none are lawful.
use Rattle.std.proofs.Common.{◌≡◌, false, true, List, [], ◌∷◌, IsTrue, refl, sym, subst, ◌∙◌, ⊎_elim, take}
use Rattle.std.proofs.lemmas.Bool.{false≢true}
use Rattle.std.proofs.lemmas.List.Elements.{All-from_recursion}
use Rattle.std.specs.List.{All, AllByRecursion, flat_map}
use Rattle.tx_events.specs.declared.multi.MultiEvent.{MultiEvent}
use Rattle.tx_events.specs.Multis.{AreLegalMultis, InBase, MultiMayCome}
use Rattle.tx_events.specs.Places.{EachPlace}
use Rattle.tx_events.proofs.Membership.{Has, contains_has}
use Rattle.tx_model.specs.declared.report.Line.{Line}
use Rattle.tx_model.specs.declared.report.Step.{Step}
use Rattle.tx_model.specs.Rounds.{lines_in}
use Rattle.life_law.specs.Facts.{Facts}
use Rattle.life_law.specs.LawfulMultis.{AreLawfulMultis, AreMultisInTurn, MultiComesInTurn, is_ok_trim}
use Rattle.life_law.specs.MultiLines.{of_records}
use Rattle.life_law.specs.MultiPlaces.{has_multi_line}

nowhere : (P : List MultiEvent → MultiEvent → Type 0) → EachPlace [] P
nowhere P p x e = absurd cc

-- no such line trims
none_trimmed : (lines : List Line) → AllByRecursion (λ l. is_ok_trim l ≡ false) lines → (l : Line) → Has lines l → is_ok_trim l ≡ true → ⊥
none_trimmed [] a l h e = h
none_trimmed (k ∷ lines) a l h e = ⊎_elim
    (λ (q : k ≡ l). false≢true (sym (subst (λ x. is_ok_trim x ≡ false) q a.0) ∙ e))
    (λ (r : Has lines l). none_trimmed lines a.1 l r e)
    h

pub untouched : (f : Facts) (told : List Step) → f.multis ≡ [] → AllByRecursion (λ l. is_ok_trim l ≡ false) (flat_map lines_in told) → AreLawfulMultis f told
untouched f told none plain = record {
  legal = subst (λ h. AreLegalMultis f.base (InBase f.base) h) (sym none) (nowhere (MultiMayCome f.base (InBase f.base)));
  by_records = λ t. subst (λ h. AreLegalMultis f.base (of_records f.base f.recorded) h) (sym none) (nowhere (MultiMayCome f.base (of_records f.base f.recorded)));
  turns = subst (λ h. EachPlace h MultiComesInTurn) (sym none) (nowhere MultiComesInTurn);
  in_turn = subst (λ h. AreMultisInTurn h told) (sym none) (λ n. record {
    first = [];
    behind = [];
    split = refl;
    theirs = All-from_recursion (λ e. IsTrue (has_multi_line (flat_map lines_in (take n told)) e)) [] tt;
    others = All-from_recursion (λ e. has_multi_line (flat_map lines_in (take n told)) e ≡ false) [] tt;
  });
  no_other = subst (λ h. All (λ e. IsTrue (has_multi_line (flat_map lines_in told) e)) h) (sym none) (All-from_recursion (λ e. IsTrue (has_multi_line (flat_map lines_in told) e)) [] tt);
  trims = record { callers = []; each = λ l c e. absurd (none_trimmed (flat_map lines_in told) plain l (contains_has (flat_map lines_in told) l c) e) };
}
