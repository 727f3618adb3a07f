-- Members are read again.
use Rattle.std.proofs.Common.{rules, ◌≡◌, ℕ, ◌+◌, ◌%◌, ◌^◌, ◌<◌, List, [], ◌∷◌, ◌++◌, map, Bool, true, false, Option, Some, None, refl, sym, ap, ◌∙◌, arith, append_assoc, append-nil, nat_lt, codes}
use Rattle.std.specs.List.{AllByRecursion}
use Rattle.std.specs.Fmt.{decimal}
use Rattle.std.proofs.lemmas.Fmt.{decimal_by_steps}
use Rattle.std.proofs.lemmas.Bool.Decides.{nat_tests}
use Rattle.std.proofs.lemmas.Slice.Eq.{bytes_eq-Decides}
use Rattle.tx_events.specs.declared.multi.Mode.{Mode}
use Rattle.tx_events.specs.declared.multi.Mode.TheVariants as modes
use Rattle.tx_events.specs.declared.multi.Member.{Member}
use Rattle.tx_model.specs.declared.command.Pair.{Pair}
use Rattle.tx_model.specs.declared.reply.Verdict.{Verdict}
use Rattle.tx_model.specs.declared.reply.Verdict.TheVariants as verdicts
use Rattle.tx_model.specs.declared.reply.MemberVerdict.{MemberVerdict}
use Rattle.report_text.specs.MemberText.{mode_word, verdict_word, id_word, pair_word, member_word, member_verdict_word, pair_words, member_words, member_verdict_words}
use Rattle.report_words.specs.Words.{IsWord, AreWords}
use Rattle.report_words.proofs.Again.{number_again, number_word, id_again}
use Rattle.report_words.specs.Members.{is_colon, pieces, mode_of, verdict_in, small, moded_at, pair_of, member_of, verdict_of, is_arrow, until_arrow}
use Rattle.report_words.specs.Fits.{FitsPair, FitsMember, FitsVerdict}

pieces_split : (w rest : List ℕ) → AllByRecursion (λ b. is_colon b ≡ false) w → pieces (w ++ 58 ∷ rest) ≡ w ∷ pieces rest
pieces_split [] rest a = refl
pieces_split (c ∷ w) rest a = rw (a.0, pieces_split w rest a.1) refl

no_colon : (n : ℕ) → n < 2 ^ 64 → AllByRecursion (λ b. is_colon b ≡ false) (decimal n)
no_colon n l = decimal_by_steps (λ n ds. AllByRecursion (λ b. is_colon b ≡ false) ds) (λ n l. (digit_not (48 + n) (omega arith), tt)) (λ n ds m h. push ds (48 + n % 10) h (digit_not (48 + n % 10) (omega arith))) n l
  where
    digit_not : (b : ℕ) → b < 58 → is_colon b ≡ false
    digit_not b l = grind (arith, nat_tests)

    push : (ds : List ℕ) (b : ℕ) → AllByRecursion (λ b. is_colon b ≡ false) ds → is_colon b ≡ false → AllByRecursion (λ b. is_colon b ≡ false) (ds ++ b ∷ [])
    push [] b i e = (e, tt)
    push (c ∷ ds) b i e = (i.0, push ds b i.1 e)

pub small_again : (n : ℕ) → n < 2 ^ 32 → small n ≡ Some n
small_again n l = rw (is_small n l) refl
  where
    is_small : (n : ℕ) → n < 2 ^ 32 → nat_lt n (2 ^ 32) ≡ true
    is_small n l = grind (arith, nat_tests)

mode_again : (m : Mode) → mode_of (mode_word m) ≡ Some m
unfolding mode_of mode_word
mode_again modes.KeySh = refl
mode_again _ = refl

mode_pieces : (m : Mode) → pieces (mode_word m) ≡ mode_word m ∷ []
unfolding mode_word
mode_pieces modes.KeySh = refl
mode_pieces _ = refl

mode_plain : (m : Mode) → AllByRecursion (λ b. is_colon b ≡ false) (mode_word m)
unfolding mode_word
mode_plain modes.KeySh = search rules
mode_plain _ = search rules

mode_is_word : (m : Mode) → IsWord (mode_word m)
unfolding mode_word
mode_is_word modes.KeySh = search rules
mode_is_word _ = search rules

verdict_in_again : (v : Verdict) → verdict_in (verdict_word v) ≡ Some v
unfolding verdict_in verdict_word
verdict_in_again verdicts.Visible = refl
verdict_in_again _ = refl

verdict_pieces : (v : Verdict) → pieces (verdict_word v) ≡ verdict_word v ∷ []
unfolding verdict_word
verdict_pieces verdicts.Visible = refl
verdict_pieces _ = refl

verdict_is_word : (v : Verdict) → IsWord (verdict_word v)
unfolding verdict_word
verdict_is_word verdicts.Visible = search rules
verdict_is_word _ = search rules

pub moded_again : (n : ℕ) (m : Mode) → n < 2 ^ 64 → moded_at (pieces (id_word n m)) ≡ Some (n, m, [])
unfolding moded_at id_word
moded_again n m l = rw (pieces_split (decimal n) (mode_word m) (no_colon n l), number_again n l, mode_pieces m, mode_again m) refl

moded_more : (n : ℕ) (m : Mode) (v : List ℕ) → n < 2 ^ 64 → moded_at (pieces (id_word n m ++ 58 ∷ v)) ≡ Some (n, m, pieces v)
unfolding moded_at id_word
moded_more n m v l = rw (append_assoc (decimal n) (58 ∷ mode_word m) (58 ∷ v), pieces_split (decimal n) (mode_word m ++ 58 ∷ v) (no_colon n l), number_again n l, pieces_split (mode_word m) v (mode_plain m), mode_again m) refl

pub pair_again : (p : Pair) → FitsPair p → pair_of (pair_word p) ≡ Some p
unfolding pair_of pair_word
pair_again p f = rw (moded_again p.x.number p.mode (omega arith), small_again p.x.number f) refl

pub member_again : (m : Member) → FitsMember m → member_of (member_word m) ≡ Some m
unfolding member_of
member_again m f = rw (moded_again m.id m.mode f.0, id_again m.id f) refl

pub verdict_again : (v : MemberVerdict) → FitsVerdict v → verdict_of (member_verdict_word v) ≡ Some v
unfolding verdict_of member_verdict_word
verdict_again v f = rw (moded_more v.id v.mode (verdict_word v.verdict) f.0, id_again v.id f, verdict_pieces v.verdict, verdict_in_again v.verdict) refl

-- ---- lists of items

not_arrow : {X : Type 0} (item : List ℕ → Option X) (x : X) (w : List ℕ) (b : Bool) → item w ≡ Some x → item (codes "->") ≡ None → is_arrow w ≡ b → is_arrow w ≡ false
not_arrow item x w false e f g = g
not_arrow item x w true e f g =
    let same : w ≡ codes "->" = (bytes_eq-Decides w (codes "->")).0 g in
    let none : Some x ≡ None = sym e ∙ ap item same ∙ f in
    absurd cc

pub until_again : {X : Type 0} (item : List ℕ → Option X) (word : X → List ℕ) (fits : X → Type 0) (again : (x : X) → fits x → item (word x) ≡ Some x) (apart : (x : X) → fits x → is_arrow (word x) ≡ false) (so_far xs : List X) (ws : List (List ℕ)) → ((acc : List X) → until_arrow item acc ws ≡ Some (acc, ws)) → AllByRecursion fits xs → until_arrow item so_far (map word xs ++ ws) ≡ Some (so_far ++ xs, ws)
until_again {X} item word fits again apart so_far [] ws ends a = ends so_far ∙ ap (λ (t : List X). Some (t, ws)) (sym (append-nil so_far))
until_again {X} item word fits again apart so_far (x ∷ xs) ws ends a =
    rw (apart x a.0, again x a.0) (until_again item word fits again apart (so_far ++ x ∷ []) xs ws ends a.1 ∙ ap (λ (t : List X). Some (t, ws)) (append_assoc so_far (x ∷ []) xs))

pairs_again_none : pair_of (codes "->") ≡ None
unfolding pair_of moded_at
pairs_again_none = refl

pub pairs_again : (ps : List Pair) (ws : List (List ℕ)) → AllByRecursion FitsPair ps → until_arrow pair_of [] (pair_words ps ++ codes "->" ∷ ws) ≡ Some (ps, codes "->" ∷ ws)
pairs_again ps ws a = until_again pair_of pair_word FitsPair pair_again (λ x f. not_arrow pair_of x (pair_word x) (is_arrow (pair_word x)) (pair_again x f) pairs_again_none refl) [] ps (codes "->" ∷ ws) (λ acc. refl) a

members_again_none : member_of (codes "->") ≡ None
unfolding member_of moded_at
members_again_none = refl

pub members_again : (ms : List Member) → AllByRecursion FitsMember ms → until_arrow member_of [] (member_words ms) ≡ Some (ms, [])
members_again ms a = ap (until_arrow member_of []) (sym (append-nil (member_words ms))) ∙ until_again member_of member_word FitsMember member_again (λ x f. not_arrow member_of x (member_word x) (is_arrow (member_word x)) (member_again x f) members_again_none refl) [] ms [] (λ acc. refl) a

verdicts_again_none : verdict_of (codes "->") ≡ None
unfolding verdict_of moded_at
verdicts_again_none = refl

pub verdicts_again : (vs : List MemberVerdict) → AllByRecursion FitsVerdict vs → until_arrow verdict_of [] (member_verdict_words vs) ≡ Some (vs, [])
verdicts_again vs a = ap (until_arrow verdict_of []) (sym (append-nil (member_verdict_words vs))) ∙ until_again verdict_of member_verdict_word FitsVerdict verdict_again (λ x f. not_arrow verdict_of x (member_verdict_word x) (is_arrow (member_verdict_word x)) (verdict_again x f) verdicts_again_none refl) [] vs [] (λ acc. refl) a

-- ---- words

pub word_append : (v w : List ℕ) → IsWord v → IsWord w → IsWord (v ++ w)
word_append [] w a b = b
word_append (c ∷ v) w a b = (a.0, word_append v w a.1 b)

pub words_append : (vs ws : List (List ℕ)) → AreWords vs → AreWords ws → AreWords (vs ++ ws)
words_append [] ws a b = b
words_append (v ∷ vs) ws a b = (a.0, words_append vs ws a.1 b)

pub are_words : {X : Type 0} (word : X → List ℕ) (fits : X → Type 0) (is : (x : X) → fits x → IsWord (word x)) (xs : List X) → AllByRecursion fits xs → AreWords (map word xs)
are_words word fits is [] a = tt
are_words word fits is (x ∷ xs) a = (is x a.0, are_words word fits is xs a.1)

id_is_word : (n : ℕ) (m : Mode) → n < 2 ^ 64 → IsWord (id_word n m)
unfolding id_word
id_is_word n m l = word_append (decimal n) (58 ∷ mode_word m) (number_word n l) (refl, mode_is_word m)

pairs_are_words_is : (p : Pair) → FitsPair p → IsWord (pair_word p)
unfolding pair_word
pairs_are_words_is p f = id_is_word p.x.number p.mode (omega arith)

pub pairs_are_words : (ps : List Pair) → AllByRecursion FitsPair ps → AreWords (pair_words ps)
pairs_are_words ps a = are_words pair_word FitsPair pairs_are_words_is ps a

pub members_are_words : (ms : List Member) → AllByRecursion FitsMember ms → AreWords (member_words ms)
members_are_words ms a = are_words member_word FitsMember (λ m f. id_is_word m.id m.mode f.0) ms a

verdicts_are_words_is : (v : MemberVerdict) → FitsVerdict v → IsWord (member_verdict_word v)
unfolding member_verdict_word
verdicts_are_words_is v f = word_append (id_word v.id v.mode) (58 ∷ verdict_word v.verdict) (id_is_word v.id v.mode f.0) (refl, verdict_is_word v.verdict)

pub verdicts_are_words : (vs : List MemberVerdict) → AllByRecursion FitsVerdict vs → AreWords (member_verdict_words vs)
verdicts_are_words vs a = are_words member_verdict_word FitsVerdict verdicts_are_words_is vs a
