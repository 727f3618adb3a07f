-- Ids at the front of words.
use Rattle.std.proofs.Common.{◌≡◌, ℕ, ◌<◌, List, [], ◌∷◌, ◌++◌, Option, Some, None, Err, refl, sym, ap, ◌∙◌, append-nil, append_assoc, length, arith}
use Rattle.report_words.specs.declared.unread.Unread.{Unread}
use Rattle.report_words.specs.declared.unread.Unread.TheVariants as unreads
use Rattle.report_words.specs.Reading.{◌>>=◌, number_of, number_at, full_id, Gives, id_of, front_ids, behind_ids}

pub gives_nothing : {X Y : Type 0} (view : X → Y) (s : Unread) (read : Option Y) → Gives view (Err s) read → s ≡ unreads.Form → read ≡ None
gives_nothing view unreads.Form read g e = g
gives_nothing view unreads.Memory read g e = absurd cc

pub gives_none : (s : Unread) (read : Option ℕ) → Gives {X = ℕ} (λ x. x) (Err s) read → s ≡ unreads.Form → read ≡ None
gives_none unreads.Form read g e = g
gives_none unreads.Memory read g e = absurd cc

-- a word that says a number, and the words behind it
pub record Shows (ws : List (List ℕ)) (n : ℕ) (vs : List (List ℕ)) : Type 0 where
  pub word : List ℕ
  pub words : ws ≡ word ∷ vs
  pub number : number_of word ≡ Some n

pair_is : (p q : ℕ × List (List ℕ)) → Some p ≡ Some q → p ≡ q
pair_is p q e = cc

shown : (w : List ℕ) (ws : List (List ℕ)) (n : ℕ) (vs : List (List ℕ)) (o : Option ℕ) → number_of w ≡ o → (◌>>=◌ {A = ℕ} {B = ℕ × List (List ℕ)} o (λ m. Some (m, ws))) ≡ Some (n, vs) → Shows (w ∷ ws) n vs
shown w ws n vs None f e = absurd cc
shown w ws n vs (Some m) f e =
    let pair : (m, ws) ≡ (n, vs) = pair_is (m, ws) (n, vs) e in
    let same : ws ≡ vs = ap (λ (p : ℕ × List (List ℕ)). p.1) pair in
    let number : m ≡ n = ap (λ (p : ℕ × List (List ℕ)). p.0) pair in
    record { word = w; words = ap (λ t. w ∷ t) same; number = f ∙ ap Some number }

pub number_shows : (ws : List (List ℕ)) (n : ℕ) (vs : List (List ℕ)) → number_at ws ≡ Some (n, vs) → Shows ws n vs
unfolding number_at
number_shows [] n vs e = absurd cc
number_shows (w ∷ ws) n vs e = shown w ws n vs (number_of w) refl e

pub shorter : (ws : List (List ℕ)) (n : ℕ) (vs : List (List ℕ)) → number_at ws ≡ Some (n, vs) → length vs < length ws
shorter ws n vs e = let s = number_shows ws n vs e in let l : length ws ≡ length (s.word ∷ vs) = ap length s.words in omega arith

pub record NoIds (ws : List (List ℕ)) : Type 0 where
  pub ids : front_ids ws ≡ []
  pub rest : behind_ids ws ≡ ws

pub none_here : (w : List ℕ) (ws : List (List ℕ)) → id_of w ≡ None → NoIds (w ∷ ws)
none_here w ws e = record { ids = rw e refl; rest = rw e refl }

no_number : (w : List ℕ) (ws : List (List ℕ)) (o : Option ℕ) → number_of w ≡ o → (◌>>=◌ {A = ℕ} {B = ℕ × List (List ℕ)} o (λ m. Some (m, ws))) ≡ None → NoIds (w ∷ ws)
no_number w ws None f e = none_here w ws (ap (λ o. o >>= full_id) f)
no_number w ws (Some m) f e = absurd cc

pub number_none : (ws : List (List ℕ)) → number_at ws ≡ None → NoIds ws
unfolding number_at
number_none [] e = record { ids = refl; rest = refl }
number_none (w ∷ ws) e = no_number w ws (number_of w) refl e

pub id_none : (ws : List (List ℕ)) (n : ℕ) (vs : List (List ℕ)) → number_at ws ≡ Some (n, vs) → full_id n ≡ None → NoIds ws
id_none ws n vs e f =
    let s = number_shows ws n vs e in
    rw s.words (none_here s.word vs (ap (λ o. o >>= full_id) s.number ∙ f))

pub record OneId (ws : List (List ℕ)) (x : ℕ) (vs : List (List ℕ)) : Type 0 where
  pub ids : front_ids ws ≡ x ∷ front_ids vs
  pub rest : behind_ids ws ≡ behind_ids vs

one_here : (w : List ℕ) (x : ℕ) (vs : List (List ℕ)) → id_of w ≡ Some x → OneId (w ∷ vs) x vs
one_here w x vs e = record { ids = rw e refl; rest = rw e refl }

pub id_some : (ws : List (List ℕ)) (n : ℕ) (vs : List (List ℕ)) (x : ℕ) → number_at ws ≡ Some (n, vs) → full_id n ≡ Some x → OneId ws x vs
id_some ws n vs x e f =
    let s = number_shows ws n vs e in
    rw s.words (one_here s.word x vs (ap (λ o. o >>= full_id) s.number ∙ f))

pub ids_end : (o f : List ℕ) (ws : List (List ℕ)) → NoIds ws → o ++ front_ids ws ≡ f → o ≡ f
ids_end o f ws n e = sym (append-nil o) ∙ ap (λ t. o ++ t) (sym n.ids) ∙ e

pub ids_on : (o p f : List ℕ) (x : ℕ) (ws vs : List (List ℕ)) → OneId ws x vs → p ≡ o ++ x ∷ [] → o ++ front_ids ws ≡ f → p ++ front_ids vs ≡ f
ids_on o p f x ws vs i q e = ap (λ t. t ++ front_ids vs) q ∙ append_assoc o (x ∷ []) (front_ids vs) ∙ ap (λ t. o ++ t) (sym i.ids) ∙ e
