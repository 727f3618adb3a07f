-- How a text grows by words, items and lines.
use Rattle.std.proofs.Common.{◌≡◌, ℕ, List, [], ◌∷◌, ◌++◌, sym, ap, ◌∙◌, append_assoc, append-nil, refl, Result, Ok, Err, OnOk, ◌+◌, ◌<◌, take, length, get_or, map}
use Rattle.std.proofs.lemmas.List.{take_more, flat_map_more, map_push}
use Rattle.std.specs.List.{flat_map}
use Rattle.std.specs.Fmt.{decimal}
use Rattle.report_text.specs.Words.{more, line_text, numbers}
use Rattle.report_text.specs.MemberText.{mode_word, id_word, verdict_word, pair_word, pair_words, member_word, member_words, member_verdict_word, member_verdict_words}
use Rattle.report_text.specs.ReplyText.{hex_word}
use Rattle.tx_events.specs.declared.multi.Member.{Member}
use Rattle.tx_events.specs.declared.multi.Mode.{Mode}
use Rattle.tx_model.specs.declared.command.Pair.{Pair}
use Rattle.tx_model.specs.declared.reply.MemberVerdict.{MemberVerdict}

more-append : (xs ys : List (List ℕ)) → more (xs ++ ys) ≡ more xs ++ more ys
unfolding more
more-append [] ys = refl
more-append (x ∷ xs) ys = ap (λ t. (32 ∷ x) ++ t) (more-append xs ys) ∙ sym (append_assoc (32 ∷ x) (more xs) (more ys))

-- words behind words
pub then_more : (o : List ℕ) (xs ys : List (List ℕ)) → (o ++ more xs) ++ more ys ≡ o ++ more (xs ++ ys)
then_more o xs ys = append_assoc o (more xs) (more ys) ∙ ap (λ t. o ++ t) (sym (more-append xs ys))

pub no_more : (o : List ℕ) → o ++ more [] ≡ o
unfolding more
no_more o = append-nil o

-- a word behind a space
pub one_word : (o w : List ℕ) → o ++ 32 ∷ w ≡ o ++ more (w ∷ [])
unfolding more
one_word o w = ap (λ t. o ++ 32 ∷ t) (sym (append-nil w))

-- a piece joined to a word by a colon
then_joined : (o w p : List ℕ) → (o ++ more (w ∷ [])) ++ 58 ∷ p ≡ o ++ more ((w ++ 58 ∷ p) ∷ [])
unfolding more
then_joined o w p =
    ap (λ t. (o ++ t) ++ 58 ∷ p) (append-nil (32 ∷ w)) ∙ append_assoc o (32 ∷ w) (58 ∷ p)
    ∙ ap (λ t. o ++ t) (sym (append-nil ((32 ∷ w) ++ 58 ∷ p)))

-- one item's word more
then_one_at : {X : Type 0} (f : X → List ℕ) (o : List ℕ) (xs : List X) (i : ℕ) (x : X) → i < length xs → (o ++ more (map f (take i xs))) ++ more (f (get_or xs i x) ∷ []) ≡ o ++ more (map f (take (i + 1) xs))
then_one_at f o xs i x h =
    then_more o (map f (take i xs)) (f (get_or xs i x) ∷ [])
    ∙ ap (λ t. o ++ more t) (sym (map_push f (take i xs) (get_or xs i x)) ∙ ap (map f) (sym (take_more xs i x h)))

then_one_word : {X : Type 0} (f : X → List ℕ) (o : List ℕ) (xs : List X) (i : ℕ) (x : X) → i < length xs → x ≡ get_or xs i x → (o ++ more (map f (take i xs))) ++ more (f x ∷ []) ≡ o ++ more (map f (take (i + 1) xs))
then_one_word f o xs i x h e = ap (λ y. (o ++ more (map f (take i xs))) ++ more (f y ∷ [])) e ∙ then_one_at f o xs i x h

pub then_one_number : (o : List ℕ) (ns : List ℕ) (i x : ℕ) → i < length ns → x ≡ get_or ns i x → (o ++ more (numbers (take i ns))) ++ 32 ∷ decimal x ≡ o ++ more (numbers (take (i + 1) ns))
then_one_number o ns i x h e = one_word (o ++ more (numbers (take i ns))) (decimal x) ∙ then_one_word decimal o ns i x h e

pub then_one_pair : (o : List ℕ) (xs : List Pair) (i : ℕ) (x : Pair) → i < length xs → (o ++ more (pair_words (take i xs))) ++ more (pair_word (get_or xs i x) ∷ []) ≡ o ++ more (pair_words (take (i + 1) xs))
then_one_pair o xs i x h = then_one_at pair_word o xs i x h

pub then_one_member : (o : List ℕ) (xs : List Member) (i : ℕ) (x : Member) → i < length xs → x ≡ get_or xs i x → (o ++ more (member_words (take i xs))) ++ more (member_word x ∷ []) ≡ o ++ more (member_words (take (i + 1) xs))
then_one_member o xs i x h e = then_one_word member_word o xs i x h e

pub then_one_verdict : (o : List ℕ) (xs : List MemberVerdict) (i : ℕ) (x : MemberVerdict) → i < length xs → x ≡ get_or xs i x → (o ++ more (member_verdict_words (take i xs))) ++ more (member_verdict_word x ∷ []) ≡ o ++ more (member_verdict_words (take (i + 1) xs))
then_one_verdict o xs i x h e = then_one_word member_verdict_word o xs i x h e

pub then_one_byte : (o : List ℕ) (bs : List ℕ) (i x : ℕ) → i < length bs → (o ++ more (map hex_word (take i bs))) ++ more (hex_word (get_or bs i x) ∷ []) ≡ o ++ more (map hex_word (take (i + 1) bs))
then_one_byte o bs i x h = then_one_at hex_word o bs i x h

-- one item's text more
pub then_one_item : {X : Type 0} (f : X → List ℕ) (o : List ℕ) (xs : List X) (i : ℕ) (x : X) → i < length xs → x ≡ get_or xs i x → (o ++ flat_map f (take i xs)) ++ f x ≡ o ++ flat_map f (take (i + 1) xs)
then_one_item f o xs i x h e =
    flat_map_more f o (take i xs) x ∙ ap (λ t. o ++ flat_map f t) (sym (take_more xs i x h ∙ ap (λ y. take i xs ++ y ∷ []) (sym e)))

pub no_item : {X : Type 0} (f : X → List ℕ) (o : List ℕ) (xs : List X) → o ≡ o ++ flat_map f (take 0 xs)
no_item f o xs = sym (append-nil o)

-- a line's words and its end
pub then_line : (o w : List ℕ) (ws : List (List ℕ)) → ((o ++ w) ++ more ws) ++ 10 ∷ [] ≡ o ++ line_text (w ∷ ws)
unfolding line_text
then_line o w ws =
    ap (λ t. t ++ 10 ∷ []) (append_assoc o w (more ws)) ∙ append_assoc o (w ++ more ws) (10 ∷ [])

pub then_short_line : (o w : List ℕ) → (o ++ w) ++ 10 ∷ [] ≡ o ++ line_text (w ∷ [])
unfolding line_text more
then_short_line o w = append_assoc o w (10 ∷ []) ∙ ap (λ t. o ++ (t ++ 10 ∷ [])) (sym (append-nil w))

-- a line's front: a name, a number and words
pub then_front : (o w d : List ℕ) (ws : List (List ℕ)) → ((o ++ w) ++ more (d ∷ [])) ++ more ws ≡ o ++ (w ++ more (d ∷ ws))
then_front o w d ws = then_more (o ++ w) (d ∷ []) ws ∙ append_assoc o w (more (d ∷ ws))

-- a call that adds words after a call that has added some
pub go_on : {T E : Type 0} (r : Result T E) (o a b : List ℕ) (xs ys : List (List ℕ)) → a ≡ o ++ more xs → OnOk r (b ≡ a ++ more ys) → OnOk r (b ≡ o ++ more (xs ++ ys))
go_on (Ok x) o a b xs ys e h = h ∙ ap (λ t. t ++ more ys) e ∙ then_more o xs ys
go_on (Err x) o a b xs ys e h = tt

-- a call that joins the piece p to the last word, and so makes the word v of it
pub join_on : {T E : Type 0} (r : Result T E) (o a b w p v : List ℕ) → a ≡ o ++ more (w ∷ []) → w ++ 58 ∷ p ≡ v → OnOk r (b ≡ a ++ 58 ∷ p) → OnOk r (b ≡ o ++ more (v ∷ []))
join_on (Ok x) o a b w p v e word h =
    h ∙ ap (λ t. t ++ 58 ∷ p) e ∙ then_joined o w p ∙ ap (λ t. o ++ more (t ∷ [])) word
join_on (Err x) o a b w p v e word h = tt

pub id_joined : (id : ℕ) (mode : Mode) → decimal id ++ 58 ∷ mode_word mode ≡ id_word id mode
unfolding id_word
id_joined id mode = refl

pub verdict_joined : (v : MemberVerdict) → id_word v.id v.mode ++ 58 ∷ verdict_word v.verdict ≡ member_verdict_word v
unfolding member_verdict_word
verdict_joined v = refl
