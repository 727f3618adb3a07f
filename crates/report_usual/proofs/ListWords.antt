-- Lists that are read word by word.
use Rattle.std.proofs.Common.{◌≡◌, ℕ, ◌<◌, ◌==◌, false, List, [], ◌∷◌, ◌++◌, refl, sym, ap, ◌∙◌, append_assoc, length, length-append, map, arith}
use Rattle.std.specs.List.{AllByRecursion}
use Rattle.std.specs.Fmt.{decimal}
use Rattle.std.proofs.lemmas.List.{map_push}
use Rattle.tx_events.specs.declared.multi.Mode.{Mode}
use Rattle.tx_model.specs.declared.reply.MemberVerdict.{MemberVerdict}
use Rattle.report_text.specs.Words.{more, numbers, numbers_or_dash}
use Rattle.report_text.specs.MemberText.{id_word, member_verdict_word, mode_word, pair_word, verdict_word}
use Rattle.report_text.proofs.MoreWords.{then_more, one_word}
use Rattle.report_words.specs.Fits.{FitsId}
use Rattle.report_usual.specs.Usual.{AreInFront, AreListed}

all_push : {X : Type 0} (fits : X → Type 0) (xs : List X) (x : X) → AllByRecursion fits xs → fits x → AllByRecursion fits (xs ++ x ∷ [])
all_push fits [] x a f = (f, tt)
all_push fits (y ∷ xs) x a f = (a.0, all_push fits xs x a.1 f)

none_fit : {X : Type 0} (fits : X → Type 0) (xs : List X) → xs ≡ [] → AllByRecursion fits xs
none_fit fits [] e = tt
none_fit fits (x ∷ xs) e = absurd cc

no_words : {X : Type 0} (f : X → List ℕ) (xs : List X) (bytes : List ℕ) → xs ≡ [] → bytes ≡ more (map f xs) ++ bytes
unfolding more
no_words f xs bytes e = sym (ap (λ ys. more (map f ys) ++ bytes) e)

pub none_read : {X : Type 0} (f : X → List ℕ) (fits : X → Type 0) (xs : List X) (bytes : List ℕ) → xs ≡ [] → AreInFront f fits bytes xs bytes
none_read f fits xs bytes e = record { text = no_words f xs bytes e; each = none_fit fits xs e }

word_read : {X : Type 0} (f : X → List ℕ) (xs : List X) (x : X) (bytes rest behind : List ℕ) → bytes ≡ more (map f xs) ++ rest → rest ≡ 32 ∷ (f x ++ behind) → bytes ≡ more (map f (xs ++ x ∷ [])) ++ behind
word_read f xs x bytes rest behind e g =
    e ∙ ap (λ t. more (map f xs) ++ t) g
    ∙ ap (λ t. more (map f xs) ++ (t ++ behind)) (one_word [] (f x))
    ∙ sym (append_assoc (more (map f xs)) (more (f x ∷ [])) behind)
    ∙ ap (λ t. t ++ behind) (then_more [] (map f xs) (f x ∷ []))
    ∙ ap (λ ws. more ws ++ behind) (sym (map_push f xs x))

-- one item more
pub one_read : {X : Type 0} (f : X → List ℕ) (fits : X → Type 0) (xs ys : List X) (x : X) (bytes rest behind : List ℕ) → AreInFront f fits bytes xs rest → rest ≡ 32 ∷ (f x ++ behind) → fits x → ys ≡ xs ++ x ∷ [] → AreInFront f fits bytes ys behind
one_read f fits xs ys x bytes rest behind a e g q =
    rw q (record { text = word_read f xs x bytes rest behind a.text e; each = all_push fits xs x a.each g })

pub shorter : (w rest behind : List ℕ) → rest ≡ 32 ∷ (w ++ behind) → length behind < length rest
shorter w rest behind e =
    let l : length rest ≡ length (32 ∷ (w ++ behind)) = ap length e in
    omega (arith, length-append w behind)

-- ids read one by one
pub number_is : (rest behind : List ℕ) (n id : ℕ) → rest ≡ 32 ∷ (decimal n ++ behind) → id ≡ n → rest ≡ 32 ∷ (decimal id ++ behind)
number_is rest behind n id e s = e ∙ ap (λ (k : ℕ). 32 ∷ (decimal k ++ behind)) (sym s)

-- a dash, or the ids
pub is_dash : (ids bytes rest : List ℕ) → ids ≡ [] → bytes ≡ 32 ∷ 45 ∷ rest → AreListed bytes ids rest
unfolding more
is_dash ids bytes rest e f = record { text = f ∙ sym (ap (λ (is : List ℕ). more (numbers_or_dash is) ++ rest) e); each = none_fit FitsId ids e }

are_numbers : (ids : List ℕ) → (length ids == 0) ≡ false → numbers ids ≡ numbers_or_dash ids
are_numbers [] n = absurd cc
are_numbers (i ∷ ids) n = refl

pub are_listed : (ids bytes rest : List ℕ) → AreInFront decimal FitsId bytes ids rest → (length ids == 0) ≡ false → AreListed bytes ids rest
are_listed ids bytes rest a n = record { text = a.text ∙ ap (λ (ws : List (List ℕ)). more ws ++ rest) (are_numbers ids n); each = a.each }

-- an id with a mode, and a verdict
pub is_moded : (bytes rest behind after : List ℕ) (n : ℕ) (mode : Mode) → bytes ≡ 32 ∷ (decimal n ++ rest) → rest ≡ 58 ∷ behind → behind ≡ mode_word mode ++ after → bytes ≡ 32 ∷ (id_word n mode ++ after)
unfolding id_word
is_moded bytes rest behind after n mode e f g =
    e ∙ ap (λ t. 32 ∷ (decimal n ++ t)) (f ∙ ap (λ t. 58 ∷ t) g)
    ∙ ap (λ t. 32 ∷ t) (sym (append_assoc (decimal n) (58 ∷ mode_word mode) after))

pub mode_is : (rest behind : List ℕ) (n id : ℕ) (mode : Mode) → rest ≡ 32 ∷ (id_word n mode ++ behind) → id ≡ n → rest ≡ 32 ∷ (id_word id mode ++ behind)
mode_is rest behind n id mode e s = e ∙ ap (λ (k : ℕ). 32 ∷ (id_word k mode ++ behind)) (sym s)

pub pair_is : (rest behind : List ℕ) (n : ℕ) (mode : Mode) → rest ≡ 32 ∷ (id_word n mode ++ behind) → rest ≡ 32 ∷ (pair_word (record { x = record { number = n }; mode = mode }) ++ behind)
unfolding pair_word
pair_is rest behind n mode e = e

pub verdict_is : (rest after behind : List ℕ) (n : ℕ) (v : MemberVerdict) → rest ≡ 32 ∷ (id_word n v.mode ++ after) → v.id ≡ n → after ≡ 58 ∷ (verdict_word v.verdict ++ behind) → rest ≡ 32 ∷ (member_verdict_word v ++ behind)
unfolding member_verdict_word
verdict_is rest after behind n v e s f =
    mode_is rest after n v.id v.mode e s ∙ ap (λ t. 32 ∷ (id_word v.id v.mode ++ t)) f
    ∙ ap (λ t. 32 ∷ t) (sym (append_assoc (id_word v.id v.mode) (58 ∷ verdict_word v.verdict) behind))
