-- The fields of passes fit their views after a split and a join.
use Rattle.std.proofs.Common.{◌≡◌, ◌<◌, ◌||◌, ℕ, zero, suc, Bool, true, false, List, [], ◌∷◌, length, get_or, set, replicate, refl, sym, ◌∙◌, ap, subst, get_or-set_same, get_or-set_other, arith}
use mathlib.Core.Option.{none}
use lib.ListN.{length-replicate}
use Rattle.atomic_table.specs.Table.{Me, Splits, step}
use Rattle.hall.specs.declared.writer.Writer.{Writer}
use Rattle.hall.specs.declared.view.Stage.TheVariants.{Free}
use Rattle.hall.specs.declared.view.View.{View}
use Rattle.hall.specs.declared.view.Held.{Held}
use Rattle.hall.specs.Rule.{Holds, Extends, Kept}
use Rattle.notes.specs.Lists.{at}
use Rattle.hall.specs.Lists.{OwnSeen}
use Rattle.hall.specs.Told.{Moment, asking, giving, given, joined, settled, settles, longer}
use Rattle.hall.specs.Calls.{Joined, MayGive}
use Rattle.hall.specs.declared.names.Names.{Names}
use Rattle.hall.specs.Names.{AreHeld, IsGivable, only}
use Rattle.hall.specs.Fits.{Fits, carried_at}
use Rattle.notes.proofs.Growing.{begins_then}
use Rattle.notes.proofs.Names.{still_mirrors, true_inside}
use Rattle.hall.proofs.Naming.{one_name}
use Rattle.hall.proofs.Merging.{either_at, or_true}
use Rattle.hall.proofs.Splits.{splits_off}
use Rattle.hall.proofs.Moves.{free_not_in}
use Rattle.hall.proofs.Fitting.{none_carried}

longer_length : {A : Type 0} (xs ys : List (List A)) (n : ℕ) → length xs ≡ n → length ys ≡ n → length (longer xs ys) ≡ n
longer_length [] ys n a b = b
longer_length (x ∷ xs) [] n a b = a
longer_length (x ∷ xs) (y ∷ ys) zero a b = absurd (omega arith)
longer_length (x ∷ xs) (y ∷ ys) (suc n) a b = let e = longer_length xs ys n (omega arith) (omega arith) in omega arith

module _ {S V E : Type 0} (cells words cell : ℕ) (names : Names) (m : Me (Held V E) (View S E)) (f : Fits cells words cell names m) where
  pub free_empty : m.0.stage ≡ Free → m.1 ≡ []
  free_empty free = none_carried m.1 (f.carried ∙ ap carried_at free)

  pub fits_joined : (slots ws : ℕ) (w : View S E) (m' : Me (Held V E) (View S E)) (theirs both : Names) → slots ≡ cells → ws ≡ words → length w.seen ≡ length m.0.seen → m' ≡ (joined m.0 w, m.1) → AreHeld w.holds theirs → both.own ≡ names.own
      → ((k : ℕ) → get_or both.held k false ≡ (get_or names.held k false || get_or theirs.held k false)) → Fits slots ws cell both m'
  fits_joined slots ws w m' theirs both same same' wide is held own all = subst (λ (z : (ℕ × ℕ) × Me (Held V E) (View S E)). Fits z.0.0 z.0.1 cell both z.1) (λ i. ((sym same i, sym same' i), sym is i)) record {
    named = either_at m.0.holds w.holds m.0.name ∙ ap (λ b. b || get_or w.holds m.0.name false) f.named;
    wide = (let l = longer_length m.0.seen w.seen (length m.0.seen) refl wide in let k = f.wide in omega arith);
    inside = f.inside;
    carried = f.carried;
    own = f.own ∙ sym own;
    held = λ k. either_at m.0.holds w.holds k ∙ ((λ i. f.held k i || held k i) ∙ sym (all k));
  }

  pub fits_settled : (slots ws : ℕ) (ls : List (List E)) (m' : Me (Held V E) (View S E)) → slots ≡ cells → ws ≡ words → length ls ≡ length m.0.seen → m'.0 ≡ settled ls m.0 → m'.1 ≡ m.1 → Fits slots ws cell names m'
  fits_settled slots ws ls m' same same' long is out = subst (λ (z : (ℕ × ℕ) × View S E × List (ℕ × Held V E)). Fits z.0.0 z.0.1 cell names (z.1, z.2)) (λ i. ((sym same i, sym same' i), sym is i, sym out i)) record {
    named = f.named;
    wide = (let w = f.wide in omega arith);
    inside = f.inside;
    carried = f.carried;
    own = f.own;
    held = f.held;
  }

  module _ (n : ℕ) (may : IsGivable names n) where
    -- the pass has the name, and another of its own
    pub may_give : MayGive m.0 n
    may_give = (f.held n ∙ may.0, λ e. may.1 (e ∙ f.own))

    pub fits_giving : (slots ws : ℕ) (less : Names) (m' : Me (Held V E) (View S E)) → slots ≡ cells → ws ≡ words → less ≡ record names { held = set names.held n false } → m' ≡ (giving (asking n m.0), m.1) → Fits slots ws cell less m'
    fits_giving slots ws less m' same same' fewer is = subst (λ (z : (ℕ × ℕ) × Names × Me (Held V E) (View S E)). Fits z.0.0 z.0.1 cell z.1 z.2) (λ i. ((sym same i, sym same' i), sym fewer i, sym is i)) record {
      named = get_or-set_other m.0.holds n m.0.name false false (λ e. may_give.1 (sym e)) ∙ f.named;
      wide = f.wide;
      inside = f.inside;
      carried = f.carried;
      own = f.own;
      held = still_mirrors m.0.holds names.held n f.held;
    }

    pub fits_given : (slots ws : ℕ) (new : Names) (m' : Me (Held V E) (View S E)) → slots ≡ cells → ws ≡ words → n < 65 → new.own ≡ n → new.held ≡ only 65 n → m' ≡ (given (asking n m.0), []) → Fits slots ws 0 new m'
    fits_given slots ws new m' same same' small own one is = subst (λ (z : (ℕ × ℕ) × Me (Held V E) (View S E)). Fits z.0.0 z.0.1 0 new z.1) (λ i. ((sym same i, sym same' i), sym is i)) record {
      named = get_or-set_same (replicate (length m.0.holds) false) n true false (let t = true_inside m.0.holds n may_give.0 in let e = length-replicate (length m.0.holds) false in omega arith);
      wide = f.wide;
      inside = λ c e. absurd (free_not_in c e);
      carried = refl;
      own = sym own;
      held = λ k. one_name (length m.0.holds) 65 n k (true_inside m.0.holds n may_give.0) small ∙ ap (λ (l : List Bool). get_or l k false) (sym one);
    }

    pub asked_splits : (start : S) (passes places : ℕ) (session : E → ℕ) (writer : S → ℕ → Writer) (stands : S → ℕ → V → List E → Type 0) (number : S → ℕ → List E → ℕ) (kept : S → List (List E) → Type 0) (id : ℕ) (w : View S E) → w ≡ asking n m.0 → Splits (Kept start passes places session writer stands number kept) id w (giving w) (given w)
    asked_splits start passes places session writer stands number kept id w is = subst (λ (z : View S E). Splits (Kept start passes places session writer stands number kept) id z (giving z) (given z)) (sym is)
        (splits_off start passes places session writer stands number kept id (asking n m.0) may_give.0 may_give.1)

-- a joined pass has seen as many histories as each of the two
pub joined_wide : {S E : Type 0} (v w u : View S E) → length w.seen ≡ length v.seen → u ≡ joined v w → length u.seen ≡ length v.seen
joined_wide v w u wide is = ap (λ z. length z.seen) is ∙ longer_length v.seen w.seen (length v.seen) refl wide

module _ {S E : Type 0} (session : E → ℕ) (writer : S → ℕ → Writer) (kept : S → List (List E) → Type 0) (start : S) where
  -- what was seen of histories that go on in others
  further : (m : ℕ) (xs ys zs : List (List E)) → OwnSeen session (writer start) m xs ys → OwnSeen session (writer start) m ys zs → OwnSeen session (writer start) m xs zs
  further m xs ys zs a b = record { entries = λ q. b.entries q ∙ a.entries q; words = record { whole = λ q own. a.words.whole q own ∙ b.words.whole q own } }

  -- what a pass learns by a join
  learns_more : (v w : View S E) (lists : List (List E)) → Moment session writer kept start w lists → length v.seen ≡ length w.seen → v.stage ≡ Free → ((m : ℕ) → Holds v m → Holds w m) → Extends session (writer start) v.holds v.seen w.seen → Moment session writer kept start v lists
  learns_more v w lists moment same free names more = record {
    law = moment.law;
    long = moment.long ∙ sym same;
    grows = record { begins = λ q. begins_then (at v.seen q) (at w.seen q) (at lists q) (more.0.begins q) (moment.grows.begins q) };
    own_seen = λ m h. further m v.seen w.seen lists (more.1 m h) (moment.own_seen m (names m h));
    locked = λ c e. absurd (free_not_in c (sym free ∙ e));
  }

  -- the views behind a join
  pub join_tells : {V : Type 0} (v w : View S E) (m m' : Me (Held V E) (View S E)) → length w.seen ≡ length v.seen → v.stage ≡ Free → w.stage ≡ Free → m ≡ (joined v w, m.1) → settles session writer kept (step 0 0 0 0 none) m 0 m' → v.start ≡ start ∷ [] → Joined session writer kept start v w m'.0
  join_tells {V} v w m m' wide free other_free is told started =
      let P : Me (Held V E) (View S E) → Type 0 = λ z. settles session writer kept (step 0 0 0 0 none) z 0 m' in
      let t = (subst P is told) start _ started refl in
      let len : length (longer v.seen w.seen) ≡ length v.seen = longer_length v.seen w.seen (length v.seen) refl wide in record {
        lists = t.lists;
        moment = learns_more v (joined v w) t.lists t.moment (sym len) free (λ m h. either_at v.holds w.holds m ∙ ap (λ b. b || get_or w.holds m false) h) t.told.0;
        other = learns_more w (joined v w) t.lists t.moment (wide ∙ sym len) other_free (λ m h. either_at v.holds w.holds m ∙ (ap (λ b. get_or v.holds m false || b) h ∙ or_true (get_or v.holds m false))) t.told.1;
        view_is = t.view_is;
      }
