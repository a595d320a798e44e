-- What is read of operands is what stands there.
use Rattle.std.proofs.Common.{◌≡◌, ℕ, suc, zero, ◌<◌, ◌≤◌, ◌^◌, ◌&&◌, Bool, true, false, eqb, ltb, List, [], ◌∷◌, ◌++◌, length, map, flat_map, Option, Some, refl, sym, ap, subst, ◌∙◌, arith, decimal, nat_le, nat_lt, bytes_eq, ◌==◌, if◌then◌else◌, codes, append-nil}
use Rattle.std.specs.{Prelude.⊤, List.list_all, List.AllByRecursion}
use Rattle.std.proofs.{lemmas.Bool.and_parts, lemmas.Bool.Decides.nat_tests, lemmas.Option.same_Some}
use Rattle.hex.specs.Hex.{IsBytes, encode_lower}
use Rattle.pi_base.specs.{declared.guid.Guid.Guid, declared.word.Word.Word}
use Rattle.act_code.specs.declared.action.GuidArg.{GuidArg}
use Rattle.act_code.specs.declared.action.GuidArg.TheVariants.{Inline, Register}
use Rattle.act_code.specs.Format.{Format, Value, is_within, is_hob, Nothing, Byte, Within, RegisterNumber, BlockNumber, Little, GuidBytes, WordNumber, Counted, Text, Registers, Descriptor, HobBody, Pair}
use Rattle.act_code.specs.Reading.{◌>>=◌, only_if}
use Rattle.asm_text.specs.ActionText.{spaced, words_of, kind_word as shown_kind, guid_words, last_words, block_words}
use Rattle.asm_text.specs.{Front.behind, Front.guid_word, Numerals.register}
use Rattle.pi_base.specs.WordText.{hexadecimal, guid_text, word_text}
use Rattle.line_words.specs.PrintedWords.{IsGuid}
use Rattle.line_words.proofs.Comparisons.{same}
use Rattle.asm_text.specs.WordReading.{word_at, number_word, hexadecimal_word, register_word, kind_word, status_word, bytes_word}
use Rattle.asm_text.specs.OperandReading.{read, register_at, within_at, little_at, guid_at, status_at, bytes_at, counted_at, text_at, registers_within, registers_at, block_at, guid_arg_at, last_at, descriptor_at, hob_at}
use Rattle.asm_text.proofs.{Fronts.passed, Fronts.behind_is, Stacks.bind_some, Guids.guid_word_is}
use Rattle.asm_text.proofs.WordLaws.{number_is, hexadecimal_is, register_is, kind_is, status_is, bytes_is, is_most}
use Rattle.asm_text.proofs.WordSplits.{word_shown, one_word, spaced_both}
use Rattle.asm_text.proofs.Readables.{IsReadable, IsReadableArg, IsReadableLast, Shows}

-- the words stand at the front of the text, before the rest
abbrev Fronts : List ℕ → List (List ℕ) → List ℕ → Type 0
Fronts text words rest = text ≡ flat_map spaced words ++ rest

fronts_both : (text middle rest : List ℕ) (first second : List (List ℕ)) → Fronts text first middle → Fronts middle second rest → Fronts text (first ++ second) rest
fronts_both text middle rest first second a b = a ∙ ap (λ t. flat_map spaced first ++ t) b ∙ sym (spaced_both first second rest)

within_is : (low high n : ℕ) → low ≤ n → n ≤ high → is_within low high n ≡ true
within_is low high n least most = grind (arith, nat_tests)

is_less : (n m : ℕ) → ltb n m ≡ true → n < m
is_less n m test = grind (arith, nat_tests)

register_was : (text : List ℕ) (x : ℕ × List ℕ) → register_at text ≡ Some x → (x.0 < 16) × Fronts text (register x.0 ∷ []) x.1
unfolding register_at
register_was text x e =
    let w = bind_some (word_at text) (λ w. register_word w.0 >>= λ r. let found : ℕ × List ℕ = (r, w.1) in Some found) x e in
    let r = bind_some (register_word w.0.0) (λ r. let found : ℕ × List ℕ = (r, w.0.1) in Some found) x w.2 in
    let is = register_is r.0 w.0.0 r.1 in
    subst (λ (y : ℕ × List ℕ). (y.0 < 16) × Fronts text (register y.0 ∷ []) y.1) (same_Some (r.0, w.0.1) x r.2) (is.0, word_shown text (register r.0) w.0 w.1 is.1)

abbrev ranged : ℕ → ℕ → List ℕ → ℕ → Option (ℕ × List ℕ)
ranged low high rest n = only_if (is_within low high n) (n, rest)

within_was : (shown : ℕ → List ℕ) (small : List ℕ → Option ℕ) (low high : ℕ) (text : List ℕ) (x : ℕ × List ℕ) → ((word : List ℕ) (n : ℕ) → small word ≡ Some n → word ≡ shown n)
    → within_at small low high text ≡ Some x → (is_within low high x.0 ≡ true) × Fronts text (shown x.0 ∷ []) x.1
unfolding within_at
within_was shown small low high text x is e =
    let w = bind_some (word_at text) (λ w. small w.0 >>= ranged low high w.1) x e in
    let n = bind_some (small w.0.0) (ranged low high w.0.1) x w.2 in
    let p = passed (is_within low high n.0) (n.0, w.0.1) x n.2 in
    subst (λ (y : ℕ × List ℕ). (is_within low high y.0 ≡ true) × Fronts text (shown y.0 ∷ []) y.1) p.1 (p.0, word_shown text (shown n.0) w.0 w.1 (is w.0.0 n.0 n.1))

decimal_was : (low high : ℕ) (text : List ℕ) (x : ℕ × List ℕ) → within_at (number_word 10) low high text ≡ Some x → (low ≤ x.0) × (x.0 ≤ high) × Fronts text (decimal x.0 ∷ []) x.1
decimal_was low high text x e =
    let r = within_was decimal (number_word 10) low high text x (λ word n e. (number_is 10 n word e).1) e in
    let parts = and_parts (nat_le low x.0) (nat_le x.0 high) r.0 in
    (is_most low x.0 parts.0, is_most x.0 high parts.1, r.1)

abbrev sized : ℕ → List ℕ → ℕ → Option (ℕ × List ℕ)
sized limit rest n = only_if (nat_lt n limit) (n, rest)

abbrev little_word : Bool → List ℕ → Option ℕ
little_word test word = if test then number_word 10 word else hexadecimal_word word

abbrev little_text : Bool → ℕ → List ℕ
little_text test n = if test then decimal n else hexadecimal n

little_is : (test : Bool) (word : List ℕ) (n : ℕ) → little_word test word ≡ Some n → word ≡ little_text test n
little_is true word n e = (number_is 10 n word e).1
little_is false word n e = (hexadecimal_is n word e).1

little_was : (width : ℕ) (text : List ℕ) (x : ℕ × List ℕ) → little_at width text ≡ Some x → (x.0 < 256 ^ width) × Fronts text (little_text (width == 2) x.0 ∷ []) x.1
unfolding little_at
little_was width text x e =
    let w = bind_some (word_at text) (λ w. little_word (width == 2) w.0 >>= sized (256 ^ width) w.1) x e in
    let n = bind_some (little_word (width == 2) w.0.0) (sized (256 ^ width) w.0.1) x w.2 in
    let p = passed (nat_lt n.0 (256 ^ width)) (n.0, w.0.1) x n.2 in
    subst (λ (y : ℕ × List ℕ). (y.0 < 256 ^ width) × Fronts text (little_text (width == 2) y.0 ∷ []) y.1) p.1
    (is_less n.0 (256 ^ width) p.0, word_shown text (little_text (width == 2) n.0) w.0 w.1 (little_is (width == 2) w.0.0 n.0 n.1))

guid_was : (text : List ℕ) (x : Guid × List ℕ) → guid_at text ≡ Some x → IsGuid x.0 × Fronts text (guid_text x.0 ∷ []) x.1
unfolding guid_at
guid_was text x e =
    let w = bind_some (word_at text) (λ w. guid_word w.0 >>= λ g. let found : Guid × List ℕ = (g, w.1) in Some found) x e in
    let g = bind_some (guid_word w.0.0) (λ g. let found : Guid × List ℕ = (g, w.0.1) in Some found) x w.2 in
    let is = guid_word_is w.0.0 g.0 g.1 in
    subst (λ (y : Guid × List ℕ). IsGuid y.0 × Fronts text (guid_text y.0 ∷ []) y.1) (same_Some (g.0, w.0.1) x g.2) (is.0, word_shown text (guid_text g.0) w.0 w.1 is.1)

status_was : (text : List ℕ) (x : Word × List ℕ) → status_at text ≡ Some x → Fronts text (word_text x.0 ∷ []) x.1
unfolding status_at
status_was text x e =
    let w = bind_some (word_at text) (λ w. status_word w.0 >>= λ s. let found : Word × List ℕ = (s, w.1) in Some found) x e in
    let s = bind_some (status_word w.0.0) (λ s. let found : Word × List ℕ = (s, w.0.1) in Some found) x w.2 in
    subst (λ (y : Word × List ℕ). Fronts text (word_text y.0 ∷ []) y.1) (same_Some (s.0, w.0.1) x s.2) (word_shown text (word_text s.0) w.0 w.1 (status_is w.0.0 s.0 s.1))

bytes_was : (text : List ℕ) (x : List ℕ × List ℕ) → bytes_at text ≡ Some x → IsBytes x.0 × Fronts text (encode_lower x.0 ∷ []) x.1
unfolding bytes_at
bytes_was text x e =
    let w = bind_some (word_at text) (λ w. bytes_word w.0 >>= λ b. let found : List ℕ × List ℕ = (b, w.1) in Some found) x e in
    let b = bind_some (bytes_word w.0.0) (λ b. let found : List ℕ × List ℕ = (b, w.0.1) in Some found) x w.2 in
    let is = bytes_is w.0.0 b.0 b.1 in
    subst (λ (y : List ℕ × List ℕ). IsBytes y.0 × Fronts text (encode_lower y.0 ∷ []) y.1) (same_Some (b.0, w.0.1) x b.2) (is.0, word_shown text (encode_lower b.0) w.0 w.1 is.1)

counted_was : (text : List ℕ) (x : List ℕ × List ℕ) → counted_at text ≡ Some x → IsReadable Counted x.0 × Fronts text (encode_lower x.0 ∷ []) x.1
unfolding counted_at
counted_was text x e =
    let b = bind_some (bytes_at text) (λ b. only_if (is_within 1 64 (length b.0)) b) x e in
    let p = passed (is_within 1 64 (length b.0.0)) b.0 x b.2 in
    let is = bytes_was text b.0 b.1 in
    subst (λ (y : List ℕ × List ℕ). IsReadable Counted y.0 × Fronts text (encode_lower y.0 ∷ []) y.1) p.1 ((p.0, is.0), is.1)

text_was : (text : List ℕ) (x : List ℕ × List ℕ) → text_at text ≡ Some x → IsReadable Text x.0 × Fronts text (x.0 ∷ []) x.1
unfolding text_at
text_was text x e =
    let b = bind_some (behind (codes " ") text) (λ t. let found : List ℕ × List ℕ = (t, []) in only_if (is_within 1 64 (length t) && list_all (is_within 32 126) t) found) x e in
    let found : List ℕ × List ℕ = (b.0, []) in
    let p = passed (is_within 1 64 (length b.0) && list_all (is_within 32 126) b.0) found x b.2 in
    let tests = and_parts (is_within 1 64 (length b.0)) (list_all (is_within 32 126) b.0) p.0 in
    let here : Fronts text (b.0 ∷ []) [] = behind_is (codes " ") text b.0 b.1 ∙ ap (λ t. 32 ∷ t) (sym (append-nil b.0)) ∙ one_word b.0 [] in
    subst (λ (y : List ℕ × List ℕ). IsReadable Text y.0 × Fronts text (y.0 ∷ []) y.1) p.1 ((tests.0, tests.1), here)

few_were : (n : ℕ) (text list : List ℕ) → registers_within n text ≡ Some list → (length list ≤ n) × AllByRecursion (λ r. r < 16) list × (text ≡ flat_map spaced (map register list))
unfolding registers_within
few_were n [] list e =
    subst (λ (l : List ℕ). (length l ≤ n) × AllByRecursion (λ r. r < 16) l × ([] ≡ flat_map spaced (map register l))) (same_Some [] list e) (omega arith, tt, refl)
few_were zero (b ∷ text) list e = absurd cc
few_were (suc n) (b ∷ text) list e =
    let first = bind_some (register_at (b ∷ text)) (λ first. registers_within n first.1 >>= λ others. Some (first.0 ∷ others)) list e in
    let others = bind_some (registers_within n first.0.1) (λ others. Some (first.0.0 ∷ others)) list first.2 in
    let one = register_was (b ∷ text) first.0 first.1 in
    let more = few_were n first.0.1 others.0 others.1 in
    let here : b ∷ text ≡ flat_map spaced (map register (first.0.0 ∷ others.0)) =
    one.1 ∙ ap (λ t. t ++ first.0.1) (append-nil (32 ∷ register first.0.0)) ∙ ap (λ t. (32 ∷ register first.0.0) ++ t) more.2 in
    subst (λ (l : List ℕ). (length l ≤ suc n) × AllByRecursion (λ r. r < 16) l × (b ∷ text ≡ flat_map spaced (map register l))) (same_Some (first.0.0 ∷ others.0) list others.2)
    (omega (arith, more.0), (one.0, more.1), here)

registers_were : (text : List ℕ) (x : List ℕ × List ℕ) → registers_at text ≡ Some x → IsReadable Registers x.0 × Fronts text (map register x.0) x.1
unfolding registers_at
registers_were text x e =
    let l = bind_some (registers_within 8 text) (λ l. let found : List ℕ × List ℕ = (l, []) in only_if (nat_lt 0 (length l)) found) x e in
    let found : List ℕ × List ℕ = (l.0, []) in
    let p = passed (nat_lt 0 (length l.0)) found x l.2 in
    let few = few_were 8 text l.0 l.1 in
    let some : 0 < length l.0 = is_less 0 (length l.0) p.0 in
    let count : is_within 1 8 (length l.0) ≡ true = within_is 1 8 (length l.0) (omega arith) (omega (arith, few.0)) in
    subst (λ (y : List ℕ × List ℕ). IsReadable Registers y.0 × Fronts text (map register y.0) y.1) p.1 ((count, few.1), few.2 ∙ sym (append-nil (flat_map spaced (map register l.0))))

block_was : (text : List ℕ) (x : ℕ × List ℕ) → block_at text ≡ Some x → (x.0 < 64) × Fronts text (block_words x.0) x.1
unfolding block_at
block_was text x e =
    let w = bind_some (word_at text) (λ w. only_if (bytes_eq w.0 (codes "block")) w.1 >>= λ rest. within_at (number_word 10) 0 63 rest) x e in
    let r = bind_some (only_if (bytes_eq w.0.0 (codes "block")) w.0.1) (λ rest. within_at (number_word 10) 0 63 rest) x w.2 in
    let p = passed (bytes_eq w.0.0 (codes "block")) w.0.1 r.0 r.1 in
    let d = decimal_was 0 63 r.0 x r.2 in
    let front : Fronts text (codes "block" ∷ []) r.0 = word_shown text (codes "block") w.0 w.1 ((same w.0.0 (codes "block")).0 p.0) ∙ ap (λ t. flat_map spaced (codes "block" ∷ []) ++ t) p.1 in
    (omega (arith, d.1), fronts_both text r.0 x.1 (codes "block" ∷ []) (decimal x.0 ∷ []) front d.2)

arg_by : (text : List ℕ) (w : List ℕ × List ℕ) (x : GuidArg × List ℕ) (test : Bool) → word_at text ≡ Some w → bytes_eq w.0 (codes "at") ≡ test
    → (if test then register_at w.1 >>= (λ v. let found : GuidArg × List ℕ = (Register v.0, v.1) in Some found) else guid_at text >>= (λ g. let found : GuidArg × List ℕ = (Inline g.0, g.1) in Some found)) ≡ Some x
    → IsReadableArg x.0 × Fronts text (guid_words x.0) x.1
arg_by text w x true here is e =
    let v = bind_some (register_at w.1) (λ v. let found : GuidArg × List ℕ = (Register v.0, v.1) in Some found) x e in
    let r = register_was w.1 v.0 v.1 in
    let front = word_shown text (codes "at") w here ((same w.0 (codes "at")).0 is) in
    subst (λ (y : GuidArg × List ℕ). IsReadableArg y.0 × Fronts text (guid_words y.0) y.1) (same_Some (Register v.0.0, v.0.1) x v.2)
    (r.0, fronts_both text w.1 v.0.1 (codes "at" ∷ []) (register v.0.0 ∷ []) front r.1)
arg_by text w x false here is e =
    let g = bind_some (guid_at text) (λ g. let found : GuidArg × List ℕ = (Inline g.0, g.1) in Some found) x e in
    let r = guid_was text g.0 g.1 in
    subst (λ (y : GuidArg × List ℕ). IsReadableArg y.0 × Fronts text (guid_words y.0) y.1) (same_Some (Inline g.0.0, g.0.1) x g.2) (r.0, r.1)

arg_was : (text : List ℕ) (x : GuidArg × List ℕ) → guid_arg_at text ≡ Some x → IsReadableArg x.0 × Fronts text (guid_words x.0) x.1
unfolding guid_arg_at
arg_was text x e =
    let w = bind_some (word_at text) (λ w. if bytes_eq w.0 (codes "at") then register_at w.1 >>= (λ v. let found : GuidArg × List ℕ = (Register v.0, v.1) in Some found) else guid_at text >>= (λ g. let found : GuidArg × List ℕ = (Inline g.0, g.1) in Some found)) x e in
    arg_by text w.0 x (bytes_eq w.0.0 (codes "at")) w.1 refl w.2

last_was : (kind : ℕ) (text : List ℕ) (x : ℕ × List ℕ) → last_at kind text ≡ Some x → IsReadableLast kind x.0 × Fronts text (last_words kind x.0) x.1
unfolding last_at
last_was zero text x e = register_was text x e
last_was (suc kind) text x e =
    let other : eqb (suc kind) 0 ≡ false = grind (arith, nat_tests) in
    rw other (block_was text x (rw other at e))

descriptor_was : (text : List ℕ) (x : (ℕ × GuidArg × ℕ) × List ℕ) → descriptor_at text ≡ Some x → IsReadable Descriptor x.0 × Fronts text (words_of decimal Descriptor x.0) x.1
unfolding descriptor_at
descriptor_was text x e =
    let w = bind_some (word_at text) (λ w. kind_word w.0 >>= λ kind. guid_arg_at w.1 >>= λ guid. last_at kind guid.1 >>= λ arg. let found : (ℕ × GuidArg × ℕ) × List ℕ = ((kind, guid.0, arg.0), arg.1) in Some found) x e in
    let k = bind_some (kind_word w.0.0) (λ kind. guid_arg_at w.0.1 >>= λ guid. last_at kind guid.1 >>= λ arg. let found : (ℕ × GuidArg × ℕ) × List ℕ = ((kind, guid.0, arg.0), arg.1) in Some found) x w.2 in
    let g = bind_some (guid_arg_at w.0.1) (λ guid. last_at k.0 guid.1 >>= λ arg. let found : (ℕ × GuidArg × ℕ) × List ℕ = ((k.0, guid.0, arg.0), arg.1) in Some found) x k.2 in
    let a = bind_some (last_at k.0 g.0.1) (λ arg. let found : (ℕ × GuidArg × ℕ) × List ℕ = ((k.0, g.0.0, arg.0), arg.1) in Some found) x g.2 in
    let kind = kind_is w.0.0 k.0 k.1 in
    let guid = arg_was w.0.1 g.0 g.1 in
    let arg = last_was k.0 g.0.1 a.0 a.1 in
    let front = word_shown text (shown_kind k.0) w.0 w.1 kind.1 in
    let behind_kind = fronts_both w.0.1 g.0.1 a.0.1 (guid_words g.0.0) (last_words k.0 a.0.0) guid.1 arg.1 in
    let whole = fronts_both text w.0.1 a.0.1 (shown_kind k.0 ∷ []) (guid_words g.0.0 ++ last_words k.0 a.0.0) front behind_kind in
    let made : (ℕ × GuidArg × ℕ) × List ℕ = ((k.0, g.0.0, a.0.0), a.0.1) in
    subst (λ (y : (ℕ × GuidArg × ℕ) × List ℕ). IsReadable Descriptor y.0 × Fronts text (words_of decimal Descriptor y.0) y.1) {x = made} (same_Some made x a.2) ((kind.0, guid.0, arg.0), whole)

hob_was : (text : List ℕ) (x : (ℕ × List ℕ) × List ℕ) → hob_at text ≡ Some x → IsReadable HobBody x.0 × Fronts text (words_of decimal HobBody x.0) x.1
unfolding hob_at
hob_was text x e =
    let k = bind_some (within_at (number_word 10) 0 255 text) (λ kind. bytes_at kind.1 >>= λ body. let found : (ℕ × List ℕ) × List ℕ = ((kind.0, body.0), body.1) in only_if (is_hob kind.0 (length body.0)) found) x e in
    let b = bind_some (bytes_at k.0.1) (λ body. let found : (ℕ × List ℕ) × List ℕ = ((k.0.0, body.0), body.1) in only_if (is_hob k.0.0 (length body.0)) found) x k.2 in
    let made : (ℕ × List ℕ) × List ℕ = ((k.0.0, b.0.0), b.0.1) in
    let p = passed (is_hob k.0.0 (length b.0.0)) made x b.2 in
    let kind = decimal_was 0 255 text k.0 k.1 in
    let body = bytes_was k.0.1 b.0 b.1 in
    subst (λ (y : (ℕ × List ℕ) × List ℕ). IsReadable HobBody y.0 × Fronts text (words_of decimal HobBody y.0) y.1) {x = made} p.1
    ((omega (arith, kind.1), p.0, body.0), fronts_both text k.0.1 b.0.1 (decimal k.0.0 ∷ []) (encode_lower b.0.0 ∷ []) kind.2 body.1)

pub shows : (shown : ℕ → List ℕ) (small : List ℕ → Option ℕ) (most : ℕ) → Shows shown small most → (format : Format) (text : List ℕ) (x : Value format × List ℕ) → read small format text ≡ Some x
    → IsReadable format x.0 × (text ≡ flat_map spaced (words_of shown format x.0) ++ x.1)
shows shown small most laws Nothing text x e =
    subst (λ (y : Unit {0} × List ℕ). ⊤ × (text ≡ y.1)) (same_Some (tt, text) x e) (tt, refl)
shows shown small most laws Byte text x e = let d = decimal_was 0 255 text x e in (omega (arith, d.1), d.2)
shows shown small most laws (Within low high) text x e = within_was shown small low high text x laws.is e
shows shown small most laws RegisterNumber text x e = register_was text x e
shows shown small most laws BlockNumber text x e = block_was text x e
shows shown small most laws (Little width) text x e = little_was width text x e
shows shown small most laws GuidBytes text x e = guid_was text x e
shows shown small most laws WordNumber text x e = (tt, status_was text x e)
shows shown small most laws Counted text x e = counted_was text x e
shows shown small most laws Text text x e = text_was text x e
shows shown small most laws Registers text x e = registers_were text x e
shows shown small most laws Descriptor text x e = descriptor_was text x e
shows shown small most laws HobBody text x e = hob_was text x e
shows shown small most laws (Pair first second) text x e =
    let a = bind_some (read small first text) (λ a. read small second a.1 >>= λ b. let found : (Value first × Value second) × List ℕ = ((a.0, b.0), b.1) in Some found) x e in
    let b = bind_some (read small second a.0.1) (λ b. let found : (Value first × Value second) × List ℕ = ((a.0.0, b.0), b.1) in Some found) x a.2 in
    let made : (Value first × Value second) × List ℕ = ((a.0.0, b.0.0), b.0.1) in
    let p = shows shown small most laws first text a.0 a.1 in
    let q = shows shown small most laws second a.0.1 b.0 b.1 in
    subst (λ (y : (Value first × Value second) × List ℕ). (IsReadable first y.0.0 × IsReadable second y.0.1) × (text ≡ flat_map spaced (words_of shown first y.0.0 ++ words_of shown second y.0.1) ++ y.1)) (same_Some made x b.2)
    ((p.0, q.0), fronts_both text a.0.1 b.0.1 (words_of shown first a.0.0) (words_of shown second b.0.0) p.1 q.1)
