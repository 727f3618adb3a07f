-- How the live snapshots that are held change.
use Rattle.std.proofs.Common.{◌≡◌, ℕ, zero, suc, ◌<◌, ◌≤◌, List, [], ◌∷◌, ◌++◌, length, Contains, Option, Some, None, Vec, refl, sym, ap, ◌∙◌, arith, Bool, true, false, not, ◌&&◌, ◌==◌, cond}
use Rattle.std.proofs.lemmas.Bool.Decides.{nat_tests}
use Rattle.std.proofs.lemmas.Map.Text.{is_eq-slice_cmp}
use Rattle.std.specs.BTreeMap.{BTreeMap, UpdatesBy}
use Rattle.std.specs.Cmp.Lexicographic.{slice_cmp}
use Rattle.std.specs.List.{list_any, slice_index_or}
use Rattle.std.specs.Map.{lookup, IsKeyTest, AreApart as TestsAreApart, KeepsOthers}
use Rattle.std.specs.Ordering.{nat_cmp, is_eq}
use Rattle.std.specs.Prelude.{slice_set}
use Rattle.tx_events.proofs.ListSteps.{not_both}
use Rattle.tx_events.proofs.Membership.{contains_has}
use Rattle.tx_events.specs.Events.{same_name}
use Rattle.tx_events.specs.Horizon.{LiveSnap, is_snap_of}
use Rattle.counted_map.proofs.Counted.{counts_alike}
use Rattle.proc_table.specs.Lives.{HoldsLive, IsTally, one_more, with_xmin, xmin_in_place, xmin_of_bytes, xmin_under, kept_xmin, others}
use Rattle.proc_table.specs.declared.live.LiveSnapshots.{LiveSnapshots}
use Rattle.proc_table.specs.declared.named.NamedXmin.{NamedXmin}
use Rattle.proc_table.specs.declared.named.NamedXmins.{NamedXmins}
use Rattle.proc_table.proofs.LiveLemmas.{same_names, apart_push, apart_filtered, live_more, live_others, one_taken}
use Rattle.tx_events.proofs.Names.{same_name_refl, same_name_equal}
use Rattle.proc_table.proofs.XminTallies.{with_push}

-- keys compare as names
key_is : (xs ys : List ℕ) → is_eq (slice_cmp nat_cmp xs ys) ≡ same_name xs ys
key_is xs ys = is_eq-slice_cmp xs ys ∙ same_names xs ys

pub key_equal : (xs ys : List ℕ) → is_eq (slice_cmp nat_cmp xs ys) ≡ true → xs ≡ ys
key_equal xs ys e = same_name_equal xs ys (sym (key_is xs ys) ∙ e)

other_entries : {K X : Type 0} (eq : K → K → Bool) (test : K → Bool) (old new : List (K × X)) → KeepsOthers eq test old new → (other : K → Bool) → IsKeyTest eq other → TestsAreApart test other → lookup other new ≡ lookup other old
unfolding KeepsOthers
other_entries eq test old new h = h

apart_first : (t : ℕ) → (0 == suc t) ≡ false
apart_first t = grind (arith, nat_tests)

apart_last : (s : ℕ) → (suc s == 0) ≡ false
apart_last s = grind (arith, nat_tests)

same_next : (s t : ℕ) → (suc s == suc t) ≡ (s == t)
same_next s t = grind (arith, nat_tests)

module _ {Z : Type 0} where
  -- a map of names, after one that has w under a name
  pub under_after : (name : List ℕ) (m n : BTreeMap (Vec ℕ Z) ℕ) (w : Option ℕ) → UpdatesBy (λ x y. slice_cmp nat_cmp x.items y.items) (λ k. slice_cmp nat_cmp name k.items) m n w →
      (ns : List ℕ) → xmin_of_bytes ns n ≡ cond (same_name name ns) w (xmin_of_bytes ns m)
  under_after name m n w h ns = one (same_name name ns) refl
    where
      apart : same_name name ns ≡ false → (k : Vec ℕ Z) → is_eq (slice_cmp nat_cmp name k.items) ≡ true → (b : Bool) → is_eq (slice_cmp nat_cmp ns k.items) ≡ b → b ≡ false
      apart e k f false g = refl
      apart e k f true g = not_both (same_name name ns) (ap (same_name name) (key_equal ns k.items g ∙ sym (key_equal name k.items f)) ∙ same_name_refl name) e

      one : (b : Bool) → same_name name ns ≡ b → xmin_of_bytes ns n ≡ cond b w (xmin_of_bytes ns m)
      one true e = ap (λ l. xmin_of_bytes l n) (sym (same_name_equal name ns e)) ∙ h.1
      one false e =
          other_entries _ _ _ _ h.3 (λ k. is_eq (slice_cmp nat_cmp ns k.items))
          (λ x y f. ap (λ l. is_eq (slice_cmp nat_cmp l y.items)) (key_equal ns x.items f))
          (λ k f. apart e k f (is_eq (slice_cmp nat_cmp ns k.items)) refl)

-- the names of one session, where what is under them in the map changes from before to after
pub put_last : (last : Option NamedXmin) (s : NamedXmin) (before after : List ℕ → Option ℕ) → last ≡ Some s → ((n : List ℕ) → after n ≡ cond (same_name s.name n) (Some s.xmin) (before n)) → (n : List ℕ) → after n ≡ xmin_in_place n last (before n)
put_last last s before after is put n = put n ∙ ap (λ l. xmin_in_place n l (before n)) (sym is)

module _ (last : Option NamedXmin) (name : List ℕ) (before after : List ℕ → Option ℕ) (taken : (n : List ℕ) → after n ≡ cond (same_name name n) None (before n)) where
  pub taken_last : (s : NamedXmin) → last ≡ Some s → same_name s.name name ≡ true → (n : List ℕ) → after n ≡ cond (same_name name n) None (xmin_in_place n last (before n))
  taken_last s is same n = taken n ∙ one (same_name name n) refl ∙ ap (λ l. cond (same_name name n) None (xmin_in_place n l (before n))) (sym is)
    where
      one : (b : Bool) → same_name name n ≡ b → cond b None (before n) ≡ cond b None (cond (same_name s.name n) (Some s.xmin) (before n))
      one true e = refl
      one false e = ap (λ b. cond b (Some s.xmin) (before n)) (sym (ap (λ l. same_name l n) (same_name_equal s.name name same) ∙ e))

  pub taken_earlier : (s : NamedXmin) → last ≡ Some s → same_name s.name name ≡ false → (n : List ℕ) → xmin_in_place n last (after n) ≡ cond (same_name name n) None (xmin_in_place n last (before n))
  taken_earlier s is apart n =
      ap (λ l. xmin_in_place n l (after n)) is ∙ ap (cond (same_name s.name n) (Some s.xmin)) (taken n) ∙ one (same_name name n) refl ∙ ap (λ l. cond (same_name name n) None (xmin_in_place n l (before n))) (sym is)
    where
      one : (b : Bool) → same_name name n ≡ b → cond (same_name s.name n) (Some s.xmin) (cond b None (before n)) ≡ cond b None (cond (same_name s.name n) (Some s.xmin) (before n))
      one true e = ap (λ b. cond b (Some s.xmin) None) (ap (same_name s.name) (sym (same_name_equal name n e)) ∙ apart)
      one false e = refl

  pub taken_alone : last ≡ None → (n : List ℕ) → xmin_in_place n last (after n) ≡ cond (same_name name n) None (xmin_in_place n last (before n))
  taken_alone is n = ap (λ l. xmin_in_place n l (after n)) is ∙ taken n ∙ ap (λ l. cond (same_name name n) None (xmin_in_place n l (before n))) (sym is)

pub kept_at : (ms : List NamedXmins) (s : ℕ) (d : NamedXmins) (ns : List ℕ) → s < length ms → kept_xmin ms s ns ≡ xmin_under ns (slice_index_or ms s d)
kept_at [] s d ns l = absurd (omega arith)
kept_at (m ∷ ms) zero d ns l = refl
kept_at (m ∷ ms) (suc s) d ns l = kept_at ms s d ns (omega arith)

pub kept_past : (ms : List NamedXmins) (s : ℕ) (ns : List ℕ) → length ms ≤ s → kept_xmin ms s ns ≡ None
kept_past [] s ns l = refl
kept_past (m ∷ ms) zero ns l = absurd (omega arith)
kept_past (m ∷ ms) (suc s) ns l = kept_past ms s ns (omega arith)

-- one more session, which has no snapshots
pub kept_push : (ms : List NamedXmins) (m : NamedXmins) → ((ns : List ℕ) → xmin_under ns m ≡ None) → ((t : ℕ) (ns : List ℕ) → kept_xmin ms t ns ≡ None) → (t : ℕ) (ns : List ℕ) → kept_xmin (ms ++ m ∷ []) t ns ≡ None
kept_push [] m e f zero ns = e ns
kept_push [] m e f (suc t) ns = refl
kept_push (x ∷ ms) m e f zero ns = f 0 ns
kept_push (x ∷ ms) m e f (suc t) ns = kept_push ms m e (λ t ns. f (suc t) ns) t ns

-- one session's names after a change
pub kept_after : (ms : List NamedXmins) (s : ℕ) (d m : NamedXmins) (name : List ℕ) (w : Option ℕ) → s < length ms →
    ((ns : List ℕ) → xmin_under ns m ≡ cond (same_name name ns) w (xmin_under ns (slice_index_or ms s d))) →
    (t : ℕ) (ns : List ℕ) → kept_xmin (slice_set ms s m) t ns ≡ cond ((s == t) && same_name name ns) w (kept_xmin ms t ns)
kept_after [] s d m name w l u t ns = absurd (omega arith)
kept_after (x ∷ ms) zero d m name w l u zero ns = u ns
kept_after (x ∷ ms) zero d m name w l u (suc t) ns = ap (λ b. cond (b && same_name name ns) w (kept_xmin ms t ns)) (sym (apart_first t))
kept_after (x ∷ ms) (suc s) d m name w l u zero ns = ap (λ b. cond (b && same_name name ns) w (xmin_under ns x)) (sym (apart_last s))
kept_after (x ∷ ms) (suc s) d m name w l u (suc t) ns = kept_after ms s d m name w (omega arith) u t ns ∙ ap (λ b. cond (b && same_name name ns) w (kept_xmin ms t ns)) (sym (same_next s t))

pub kept_same : (ms : List NamedXmins) (s : ℕ) (d m : NamedXmins) → s < length ms → ((ns : List ℕ) → xmin_under ns m ≡ xmin_under ns (slice_index_or ms s d)) →
    (t : ℕ) (ns : List ℕ) → kept_xmin (slice_set ms s m) t ns ≡ kept_xmin ms t ns
kept_same [] s d m l u t ns = absurd (omega arith)
kept_same (x ∷ ms) zero d m l u zero ns = u ns
kept_same (x ∷ ms) zero d m l u (suc t) ns = refl
kept_same (x ∷ ms) (suc s) d m l u zero ns = refl
kept_same (x ∷ ms) (suc s) d m l u (suc t) ns = kept_same ms s d m (omega arith) u t ns

-- what is held after one more snapshot, and after one less
pub holds_more : (ss : List LiveSnap) (l l' : LiveSnapshots) (r : LiveSnap) → HoldsLive ss l → list_any (is_snap_of r.session r.name) ss ≡ false →
    ((t : ℕ) (ns : List ℕ) → kept_xmin l'.sessions.items t ns ≡ cond (is_snap_of t ns r) (Some r.xmin) (kept_xmin l.sessions.items t ns)) → IsTally (one_more r.xmin (with_xmin ss)) l'.xmins → HoldsLive (ss ++ r ∷ []) l'
holds_more ss l l' r h free names xmins =
    record {
      apart = apart_push ss r h.apart free;
      names = λ t ns. names t ns ∙ ap (cond (is_snap_of t ns r) (Some r.xmin)) (h.names t ns) ∙ sym (live_more ss r free t ns);
      xmins = counts_alike nat_cmp _ _ _ xmins (λ x. sym (with_push ss r x));
    }

pub holds_less : (ss : List LiveSnap) (l l' : LiveSnapshots) (r : LiveSnap) → HoldsLive ss l → Contains ss r →
    ((t : ℕ) (ns : List ℕ) → kept_xmin l'.sessions.items t ns ≡ cond (is_snap_of t ns r) None (kept_xmin l.sessions.items t ns)) → ((f : ℕ → ℕ) → IsTally (one_more r.xmin f) l.xmins → IsTally f l'.xmins) → HoldsLive (others r.session r.name ss) l'
holds_less ss l l' r h has names less =
    record {
      apart = apart_filtered (λ s. not (is_snap_of r.session r.name s)) ss h.apart;
      names = λ t ns. names t ns ∙ ap (cond (is_snap_of t ns r) None) (h.names t ns) ∙ sym (live_others ss r t ns);
      xmins = less (with_xmin (others r.session r.name ss)) (counts_alike nat_cmp _ _ _ h.xmins (λ x. sym (one_taken (λ s. cond (s.xmin == x) 1 0) ss r h.apart (contains_has ss r has))));
    }

pub holds_same : (ss : List LiveSnap) (l l' : LiveSnapshots) → HoldsLive ss l → ((t : ℕ) (ns : List ℕ) → kept_xmin l'.sessions.items t ns ≡ kept_xmin l.sessions.items t ns) → IsTally (with_xmin ss) l'.xmins → HoldsLive ss l'
holds_same ss l l' h names xmins = record { apart = h.apart; names = λ t ns. names t ns ∙ h.names t ns; xmins = xmins }
