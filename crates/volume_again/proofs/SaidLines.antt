-- What the lines of a printed text say.
use Rattle.std.proofs.Common.{◌≡◌, ℕ, zero, suc, ◌^◌, ◌<◌, ◌≤◌, ◌%◌, Bool, true, false, List, [], ◌∷◌, ◌++◌, length, map, flat_map, Some, Result, Ok, refl, sym, ap, ◌∙◌, arith, decimal, subst, append_assoc, nat_le, nat_lt, codes, bytes_eq, ◌==◌, ◌&&◌, ◌||◌, not, if◌then◌else◌, eqb-true, append-nil}
use Rattle.std.specs.List.{AllByRecursion, list_all}
use Rattle.std.proofs.lemmas.Bool.{and_parts, and_from, false≢true}
use Rattle.std.proofs.lemmas.Bool.Decides.{nat_tests}
use Rattle.hex.specs.Hex.{IsBytes, encode_with, encode_lower, decode_of}
use Rattle.hex.proofs.HexLemmas.{decode_of-encode_lower}
use Rattle.pi_base.specs.{declared.guid.Guid.Guid, declared.phase.Phase.Phase}
use Rattle.pi_base.specs.declared.phase.Phase.TheVariants.{Pei, Dxe}
use Rattle.pi_base.specs.WordText.{guid_text, hexadecimal}
use Rattle.line_words.specs.PrintedWords.{IsGuid}
use Rattle.depex_code.specs.declared.depex.Depex.{Depex}
use Rattle.depex_code.specs.Expression.{IsOfPhase, instructions, bytes_of}
use Rattle.act_code.specs.{declared.action.Action.Action, declared.code.Code.Code, Table.name_of, Table.code_of_action}
use Rattle.act_code.specs.declared.code.Code.TheVariants as code
use Rattle.asm_text.specs.{ActionText.spaced, ActionText.action_text, ExpressionText.expression_text, ReadTree.IsExpression}
use Rattle.source_words.proofs.PrintedActions.{IsGoodAction, action_shown}
use Rattle.fv_volume.specs.{declared.build.attributes.Alignment.Alignment, declared.build.attributes.Alignment.TheVariants.Byte}
use Rattle.fv_volume.specs.{declared.build.attributes.FileAttributes.FileAttributes, declared.build.file_system.FileSystem.FileSystem}
use Rattle.fv_volume.specs.declared.build.file_system.FileSystem.TheVariants.{Ffs2, Ffs3}
use Rattle.fv_volume.specs.{declared.build.volume_header.VolumeForm.VolumeForm, declared.build.volume_name.VolumeName.VolumeName}
use Rattle.fv_volume.specs.{Header.is_header_length, Front.is_placed, Attributes.alignment_len}
use Rattle.source_words.specs.Words.{words}
use Rattle.volume_text.specs.{declared.fault.Cause.Cause, Reading.◌>>=◌, Reading.only_if, declared.statement.Statement.Statement}
use Rattle.volume_text.specs.declared.fault.Cause.TheVariants as cause
use Rattle.volume_text.specs.declared.statement.Statement.TheVariants as said
use Rattle.volume_text.specs.Keywords.{keyword_of, phase_of, system_of}
use Rattle.volume_text.specs.Words.{is_length, length_at, number_at, told_at, is_header, header_at, place_at, is_size, size_at, is_pad_length, pad_length_at, system_at, attributes_at, last_number, guid_at, file_type_at, section_type_at, ui_name_at, phase_at, fixed_at, last_alignment, alignment_at, chosen_at}
use Rattle.volume_text.specs.Bytes.{hex_answer, bytes_of as bytes_of_words, guids_of}
use Rattle.volume_text.specs.Line.{volume_at, name_at, pad_at, file_at, script_at, guids_at, section_at, ui_at, body_at, ReadsBy, ReadsDepex}
use Rattle.volume_text.specs.UserInterface.{is_name_byte, is_ui_name, ui_bytes}
use Rattle.volume_text.specs.{Volume.SaysLine, Text.is_passed_over}
use Rattle.volume_print.specs.Spelling.{phase_word, system_word, core_type_word, type_word, fixed_words, alignment_words, attribute_words, number_words, guid_word as told_guid}
use Rattle.fv_volume.specs.declared.sections.section_type.TheConstants.{RAW, USER_INTERFACE}
use Rattle.source_words.proofs.LineWords.{is_clean, IsClean, IsWord, IsClear, clear_of, both_clear, spaced_clear, word_then, words_spaced, stands_spaced}
use Rattle.source_words.proofs.Characters.{decimal_word, hexadecimal_word, encoded_inner, encoded_word, guid_word}
use Rattle.source_words.proofs.ValueWords.{decimal_read, hexadecimal_read, guid_read}
use Rattle.source_words.proofs.PrintedWords.{expression_is, expression_clear}
use Rattle.volume_again.proofs.TextLines.{IsLine}
use Rattle.volume_again.proofs.TypeWords.{byte_read, type_read, alignment_read, alignment_fits}

one_fits : (kind : ℕ) → kind < 256 → IsBytes (kind ∷ [])
one_fits kind fits zero = fits
one_fits kind fits (suc k) = omega arith

-- a line of words with single spaces between is one that counts
counts_first : (l word : List ℕ) (others : List (List ℕ)) → words l ≡ word ∷ others → is_passed_over l ≡ false
counts_first l word others is = rw is refl

-- what a line says, by its first word
says_by : (l word : List ℕ) (others : List (List ℕ)) (what : Statement) → words l ≡ word ∷ others → ReadsBy (keyword_of word) l others (Ok what) → SaysLine l what
says_by l word others what is reads = rw is reads

abbrev line_of : List ℕ → List (List ℕ) → List ℕ
line_of word others = word ++ flat_map spaced others

line_words : (word : List ℕ) (others : List (List ℕ)) → IsWord word → AllByRecursion IsWord others → words (line_of word others) ≡ word ∷ others
line_words word others first all =
    ap words (ap (λ t. word ++ t) (sym (append-nil (flat_map spaced others)))) ∙ word_then word (flat_map spaced others ++ []) first (stands_spaced others [] tt)
    ∙ ap (λ ws. word ∷ ws) (words_spaced others [] all tt ∙ append-nil others)

line_clear : (word : List ℕ) (others : List (List ℕ)) → IsWord word → AllByRecursion IsWord others → IsClear (line_of word others)
line_clear word others first all = both_clear word (flat_map spaced others) (clear_of word first.1) (spaced_clear others all)

flat_spaced : (xs ys : List (List ℕ)) → flat_map spaced (xs ++ ys) ≡ flat_map spaced xs ++ flat_map spaced ys
flat_spaced [] ys = refl
flat_spaced (x ∷ xs) ys = ap (λ t. (32 ∷ x) ++ t) (flat_spaced xs ys) ∙ sym (append_assoc (32 ∷ x) (flat_map spaced xs) (flat_map spaced ys))

all_then : (xs ys : List (List ℕ)) → AllByRecursion IsWord xs → AllByRecursion IsWord ys → AllByRecursion IsWord (xs ++ ys)
all_then [] ys a b = b
all_then (x ∷ xs) ys a b = (a.0, all_then xs ys a.1 b)

-- a volume's own line
abbrev attribute_list : ℕ → List (List ℕ)
attribute_list attributes = if attributes == 0 then [] else codes "attributes" ∷ (hexadecimal attributes ∷ [])

attributes_same : (attributes : ℕ) → attribute_words attributes ≡ flat_map spaced (attribute_list attributes)
attributes_same attributes = by_test (attributes == 0)
  where
    by_test : (test : Bool) → (if test then [] else codes " attributes " ++ hexadecimal attributes) ≡ flat_map spaced (if test then [] else codes "attributes" ∷ (hexadecimal attributes ∷ []))
    by_test true = refl
    by_test false = ap (λ t. codes " attributes " ++ t) (sym (append-nil (hexadecimal attributes)))

attributes_words : (attributes : ℕ) → attributes < 2 ^ 32 → AllByRecursion IsWord (attribute_list attributes)
attributes_words attributes fits = by_test (attributes == 0)
  where
    by_test : (test : Bool) → AllByRecursion IsWord (if test then [] else codes "attributes" ∷ (hexadecimal attributes ∷ []))
    by_test true = tt
    by_test false = ((omega arith, refl), (hexadecimal_word attributes (omega arith), tt))

below_32 : (n : ℕ) → n < 2 ^ 32 → nat_lt n (2 ^ 32) ≡ true
below_32 n fits = grind (arith, nat_tests)

attributes_by : (attributes : ℕ) (test : Bool) → (attributes == 0) ≡ test → attributes < 2 ^ 32
    → attributes_at (if test then [] else codes "attributes" ∷ (hexadecimal attributes ∷ [])) ≡ Ok attributes
unfolding attributes_at last_number
attributes_by attributes true is fits = ap Ok (sym (eqb-true attributes 0 is))
attributes_by attributes false is fits = rw (hexadecimal_read attributes (omega arith), below_32 attributes fits) refl

system_there : (system : FileSystem) → system_of (system_word system) ≡ Some system
unfolding system_of system_word
system_there Ffs2 = refl
system_there Ffs3 = refl

system_is_word : (system : FileSystem) → IsWord (system_word system)
unfolding system_word
system_is_word Ffs2 = (omega arith, refl)
system_is_word Ffs3 = (omega arith, refl)

length_fits : (len : ℕ) → is_length len ≡ true → len < 2 ^ 64
length_fits len is = let most : nat_le len 0x4000000 ≡ true = (and_parts (nat_le 64 len) (nat_le len 0x4000000) is).1 in grind (arith, nat_tests)

-- a number behind its word, where it is not the usual one
abbrev number_list : List ℕ → ℕ → ℕ → List (List ℕ)
number_list key usual n = if n == usual then [] else key ∷ (decimal n ∷ [])

number_same : (key between : List ℕ) (usual n : ℕ) → ((t : List ℕ) → between ++ t ≡ 32 ∷ (key ++ (32 ∷ t))) → number_words between usual n ≡ flat_map spaced (number_list key usual n)
number_same key between usual n apart = by_test (n == usual)
  where
    by_test : (test : Bool) → (if test then [] else between ++ decimal n) ≡ flat_map spaced (if test then [] else key ∷ (decimal n ∷ []))
    by_test true = refl
    by_test false = apart (decimal n) ∙ ap (λ t. 32 ∷ (key ++ (32 ∷ t))) (sym (append-nil (decimal n)))

number_are : (key : List ℕ) (usual n : ℕ) → IsWord key → n < 2 ^ 64 → AllByRecursion IsWord (number_list key usual n)
number_are key usual n is fits = by_test (n == usual)
  where
    by_test : (test : Bool) → AllByRecursion IsWord (if test then [] else key ∷ (decimal n ∷ []))
    by_test true = tt
    by_test false = (is, (decimal_word n fits, tt))

number_by : (key : List ℕ) (usual n : ℕ) (rest : List (List ℕ)) (test : Bool) → (n == usual) ≡ test → n < 2 ^ 64 → bytes_eq key key ≡ true → told_at key usual rest ≡ Ok (usual, rest)
    → told_at key usual ((if test then [] else key ∷ (decimal n ∷ [])) ++ rest) ≡ Ok (n, rest)
unfolding told_at number_at
number_by key usual n rest true is fits same other = other ∙ ap (λ k. Ok (k, rest)) (sym (eqb-true n usual is))
number_by key usual n rest false is fits same other = rw (same, decimal_read n fits) refl

number_read : (key : List ℕ) (usual n : ℕ) (rest : List (List ℕ)) → n < 2 ^ 64 → bytes_eq key key ≡ true → told_at key usual rest ≡ Ok (usual, rest)
    → told_at key usual (number_list key usual n ++ rest) ≡ Ok (n, rest)
number_read key usual n rest fits same other = number_by key usual n rest (n == usual) refl fits same other

no_header : (attributes : ℕ) → told_at (codes "header") 72 (attribute_list attributes) ≡ Ok (72, attribute_list attributes)
unfolding told_at
no_header attributes = by_test (attributes == 0)
  where
    by_test : (test : Bool) → told_at (codes "header") 72 (if test then [] else codes "attributes" ∷ (hexadecimal attributes ∷ []))
        ≡ Ok (72, (if test then [] else codes "attributes" ∷ (hexadecimal attributes ∷ [])))
    by_test true = refl
    by_test false = refl

header_short : (len header_len : ℕ) → is_header len header_len ≡ true → header_len < 2 ^ 64
header_short len header_len is =
    let first = and_parts (is_header_length header_len) (nat_le header_len len) is in
    let second = and_parts (nat_le 64 header_len) ((header_len % 2 == 0) && nat_lt header_len 65536) first.0 in
    let short = (and_parts (header_len % 2 == 0) (nat_lt header_len 65536) second.1).1 in
    grind (arith, nat_tests)

header_read : (len header_len attributes : ℕ) → is_header len header_len ≡ true
    → header_at len (number_list (codes "header") 72 header_len ++ attribute_list attributes) ≡ Ok (header_len, attribute_list attributes)
unfolding header_at
header_read len header_len attributes is =
    ap (λ r. r >>= (λ header. only_if (is_header len header.0) cause.Range header))
    (number_read (codes "header") 72 header_len (attribute_list attributes) (header_short len header_len is) refl (no_header attributes))
    ∙ ap (λ b. only_if b cause.Range (header_len, attribute_list attributes)) is

abbrev form_list : VolumeForm → List (List ℕ)
form_list form = number_list (codes "header") 72 form.header_len ++ attribute_list form.attributes

volume_read : (form : VolumeForm) (len : ℕ) → is_length len ≡ true → form.attributes < 2 ^ 32 → is_header len form.header_len ≡ true
    → volume_at (decimal len ∷ (system_word form.file_system ∷ form_list form)) ≡ Ok (said.Volume form len)
unfolding volume_at length_at system_at
volume_read form len is fits header =
    rw (
      decimal_read len (length_fits len is),
      is,
      system_there form.file_system,
      header_read len form.header_len form.attributes header,
      attributes_by form.attributes (form.attributes == 0) refl fits,
    ) refl

-- the text of a line, what it says, and that it counts
pub record Says (text : List ℕ) (what : Statement) : Type 0 where
  pub says : SaysLine text what
  pub is : IsLine text

volume_key : (l : List ℕ) (others : List (List ℕ)) (what : Statement) → Ok what ≡ volume_at others → ReadsBy (keyword_of (codes "volume")) l others (Ok what)
unfolding keyword_of
volume_key l others what is = is

abbrev pub volume_text : VolumeForm → ℕ → List ℕ
volume_text form len =
    codes "volume " ++ (decimal len ++ (32 ∷ (system_word form.file_system ++ (number_words (codes " header ") 72 form.header_len ++ attribute_words form.attributes))))

pub volume_says : (form : VolumeForm) (len : ℕ) → is_length len ≡ true → form.attributes < 2 ^ 32 → is_header len form.header_len ≡ true → Says (volume_text form len) (said.Volume form len)
volume_says form len is fits header =
    let numbers = number_list (codes "header") 72 form.header_len in
    let others = decimal len ∷ (system_word form.file_system ∷ form_list form) in
    let same : volume_text form len ≡ line_of (codes "volume") others =
    ap (λ t. codes "volume " ++ (decimal len ++ (32 ∷ (system_word form.file_system ++ t))))
    (ap (λ t. t ++ attribute_words form.attributes) (number_same (codes "header") (codes " header ") 72 form.header_len (λ t. refl))
    ∙ ap (λ t. flat_map spaced numbers ++ t) (attributes_same form.attributes) ∙ sym (flat_spaced numbers (attribute_list form.attributes))) in
    let all : AllByRecursion IsWord others = (
      decimal_word len (length_fits len is),
      (
        system_is_word form.file_system,
        all_then numbers (attribute_list form.attributes) (number_are (codes "header") 72 form.header_len (omega arith, refl) (header_short len form.header_len header))
            (attributes_words form.attributes fits),
      ),
    ) in
    let split : words (volume_text form len) ≡ codes "volume" ∷ others = ap words same ∙ line_words (codes "volume") others (omega arith, refl) all in
    record {
      says = says_by (volume_text form len) (codes "volume") others (said.Volume form len) split (volume_key (volume_text form len) others (said.Volume form len) (sym (volume_read form len is fits header)));
      is = record {
        clear = subst IsClear (sym same) (line_clear (codes "volume") others (omega arith, refl) all);
        counts = counts_first (volume_text form len) (codes "volume") others split;
      };
    }

-- the line of a name
name_key : (l : List ℕ) (others : List (List ℕ)) (what : Statement) → Ok what ≡ name_at others → ReadsBy (keyword_of (codes "name")) l others (Ok what)
unfolding keyword_of
name_key l others what is = is

no_place : (size : ℕ) → told_at (codes "at") 96 (number_list (codes "size") 20 size) ≡ Ok (96, number_list (codes "size") 20 size)
unfolding told_at
no_place size = by_test (size == 20)
  where
    by_test : (test : Bool) → told_at (codes "at") 96 (if test then [] else codes "size" ∷ (decimal size ∷ [])) ≡ Ok (96, (if test then [] else codes "size" ∷ (decimal size ∷ [])))
    by_test true = refl
    by_test false = refl

no_size : told_at (codes "size") 20 [] ≡ Ok (20, [])
unfolding told_at
no_size = refl

below_16 : (n : ℕ) → n < 2 ^ 16 → nat_lt n (2 ^ 16) ≡ true
below_16 n fits = grind (arith, nat_tests)

size_fits : (n : ℕ) → 20 ≤ n → n < 2 ^ 32 → is_size n ≡ true
size_fits n least fits = let a : nat_le 20 n ≡ true = grind (arith, nat_tests) in ap (λ b. b && nat_lt n (2 ^ 32)) a ∙ below_32 n fits

place_read : (at size : ℕ) → at < 2 ^ 16 → place_at (number_list (codes "at") 96 at ++ number_list (codes "size") 20 size) ≡ Ok (at, number_list (codes "size") 20 size)
unfolding place_at
place_read at size fits =
    ap (λ r. r >>= (λ place. only_if (nat_lt place.0 (2 ^ 16)) cause.Range place)) (number_read (codes "at") 96 at (number_list (codes "size") 20 size) (omega arith) refl (no_place size))
    ∙ ap (λ b. only_if b cause.Range (at, number_list (codes "size") 20 size)) (below_16 at fits)

size_read : (size : ℕ) → 20 ≤ size → size < 2 ^ 32 → size_at (number_list (codes "size") 20 size) ≡ Ok (size, [])
unfolding size_at
size_read size least fits =
    ap (λ ws. told_at (codes "size") 20 ws >>= (λ one. only_if (is_size one.0) cause.Range one)) (sym (append-nil (number_list (codes "size") 20 size)))
    ∙ ap (λ r. r >>= (λ one. only_if (is_size one.0) cause.Range one)) (number_read (codes "size") 20 size [] (omega arith) refl no_size)
    ∙ ap (λ b. only_if b cause.Range (size, [])) (size_fits size least fits)

abbrev place_list : VolumeName → List (List ℕ)
place_list name = number_list (codes "at") 96 name.at ++ number_list (codes "size") 20 name.size

name_read : (name : VolumeName) → IsGuid name.guid → name.at < 2 ^ 16 → name.size < 2 ^ 32 → 20 ≤ name.size → name_at (guid_text name.guid ∷ place_list name) ≡ Ok (said.Name name)
unfolding name_at guid_at
name_read name is near fits least = rw (guid_read name.guid is, place_read name.at name.size near, size_read name.size least fits) refl

-- a name that is placed has its fields
pub least_size : (header_len : ℕ) (name : VolumeName) → is_placed header_len (Some name) ≡ true → 20 ≤ name.size
least_size header_len name is = let least = (and_parts (nat_le header_len name.at) (nat_le 20 name.size) is).1 in grind (arith, nat_tests)

abbrev pub name_text : VolumeName → List ℕ
name_text name = codes "name " ++ (guid_text name.guid ++ (number_words (codes " at ") 96 name.at ++ number_words (codes " size ") 20 name.size))

pub name_says : (name : VolumeName) → IsGuid name.guid → name.at < 2 ^ 16 → name.size < 2 ^ 32 → 20 ≤ name.size → Says (name_text name) (said.Name name)
name_says name is near fits least =
    let places = number_list (codes "at") 96 name.at in
    let sizes = number_list (codes "size") 20 name.size in
    let others = guid_text name.guid ∷ place_list name in
    let text = name_text name in
    let same : text ≡ line_of (codes "name") others =
    ap (λ t. codes "name " ++ (guid_text name.guid ++ t))
    (ap (λ t. t ++ number_words (codes " size ") 20 name.size) (number_same (codes "at") (codes " at ") 96 name.at (λ t. refl))
    ∙ ap (λ t. flat_map spaced places ++ t) (number_same (codes "size") (codes " size ") 20 name.size (λ t. refl)) ∙ sym (flat_spaced places sizes)) in
    let all : AllByRecursion IsWord others = (
      guid_word name.guid,
      all_then places sizes (number_are (codes "at") 96 name.at (omega arith, refl) (omega arith)) (number_are (codes "size") 20 name.size (omega arith, refl) (omega arith)),
    ) in
    let split : words text ≡ codes "name" ∷ others = ap words same ∙ line_words (codes "name") others (omega arith, refl) all in
    record {
      says = says_by text (codes "name") others (said.Name name) split (name_key text others (said.Name name) (sym (name_read name is near fits least)));
      is = record {
        clear = subst IsClear (sym same) (line_clear (codes "name") others (omega arith, refl) all);
        counts = counts_first text (codes "name") others split;
      };
    }

-- a file's own line
abbrev fixed_list : Bool → List (List ℕ)
fixed_list fixed = if fixed then codes "fixed" ∷ [] else []

abbrev align_list : Alignment → List (List ℕ)
align_list alignment = if alignment_len alignment == 1 then [] else codes "align" ∷ (decimal (alignment_len alignment) ∷ [])

fixed_same : (fixed : Bool) → fixed_words fixed ≡ flat_map spaced (fixed_list fixed)
fixed_same true = refl
fixed_same false = refl

align_same : (alignment : Alignment) → alignment_words alignment ≡ flat_map spaced (align_list alignment)
align_same alignment = by_test (alignment_len alignment == 1)
  where
    by_test : (test : Bool) → (if test then [] else codes " align " ++ decimal (alignment_len alignment)) ≡ flat_map spaced (if test then [] else codes "align" ∷ (decimal (alignment_len alignment) ∷ []))
    by_test true = refl
    by_test false = ap (λ t. codes " align " ++ t) (sym (append-nil (decimal (alignment_len alignment))))

fixed_are : (fixed : Bool) → AllByRecursion IsWord (fixed_list fixed)
fixed_are true = ((omega arith, refl), tt)
fixed_are false = tt

align_are : (alignment : Alignment) → AllByRecursion IsWord (align_list alignment)
align_are alignment = by_test (alignment_len alignment == 1)
  where
    by_test : (test : Bool) → AllByRecursion IsWord (if test then [] else codes "align" ∷ (decimal (alignment_len alignment) ∷ []))
    by_test true = tt
    by_test false = ((omega arith, refl), (decimal_word (alignment_len alignment) (alignment_fits alignment), tt))

one_byte : (alignment : Alignment) → (alignment_len alignment == 1) ≡ true → ◌≡◌ {A = Result Alignment Cause} (Ok Byte) (Ok alignment)
one_byte Byte is = refl
one_byte _ is = absurd (false≢true is)

align_by : (alignment : Alignment) (test : Bool) → (alignment_len alignment == 1) ≡ test
    → alignment_at (if test then [] else codes "align" ∷ (decimal (alignment_len alignment) ∷ [])) ≡ Ok alignment
unfolding alignment_at last_alignment
align_by alignment true is = one_byte alignment is
align_by alignment false is = rw (decimal_read (alignment_len alignment) (alignment_fits alignment), alignment_read alignment) refl

fixed_then : (alignment : Alignment) → fixed_at (align_list alignment) ≡ (false, align_list alignment)
unfolding fixed_at
fixed_then alignment = by_test (alignment_len alignment == 1)
  where
    by_test : (test : Bool) → fixed_at (if test then [] else codes "align" ∷ (decimal (alignment_len alignment) ∷ [])) ≡ (false, if test then [] else codes "align" ∷ (decimal (alignment_len alignment) ∷ []))
    by_test true = refl
    by_test false = refl

fixed_there : (fixed : Bool) (alignment : Alignment) → fixed_at (fixed_list fixed ++ align_list alignment) ≡ (fixed, align_list alignment)
unfolding fixed_at
fixed_there true alignment = refl
fixed_there false alignment = fixed_then alignment

chosen_read : (attributes : FileAttributes) → chosen_at (fixed_list attributes.fixed ++ align_list attributes.alignment) ≡ Ok attributes
unfolding chosen_at
chosen_read attributes =
    rw (fixed_there attributes.fixed attributes.alignment, align_by attributes.alignment (alignment_len attributes.alignment == 1) refl) refl

core_is_word : (kind : ℕ) → kind < 256 → IsWord (core_type_word kind)
unfolding core_type_word
core_is_word kind fits = by_tests (kind == 3) (kind == 4) (kind == 5) (kind == 9)
  where
    by_tests : (a b c d : Bool)
        → IsWord (if a then codes "security-core" else if b then codes "pei-core" else if c then codes "dxe-core" else if d then codes "application"
        else encode_lower (kind ∷ []))
    by_tests true b c d = (omega arith, refl)
    by_tests false true c d = (omega arith, refl)
    by_tests false false true d = (omega arith, refl)
    by_tests false false false true = (omega arith, refl)
    by_tests false false false false = encoded_word (kind ∷ []) (omega arith) (one_fits kind fits)

type_is_word : (kind : ℕ) → kind < 256 → IsWord (type_word kind)
unfolding type_word
type_is_word kind fits = by_tests (kind == 1) (kind == 2) (kind == 6) (kind == 7) (kind == 8) (kind == 11) (kind == 12)
  where
    by_tests : (a b c d e f g : Bool)
        → IsWord (if a then codes "raw" else if b then codes "freeform" else if c then codes "peim" else if d then codes "driver" else if e then codes "combined"
        else if f then codes "volume-image" else if g then codes "mm-dxe" else core_type_word kind)
    by_tests true b c d e f g = (omega arith, refl)
    by_tests false true c d e f g = (omega arith, refl)
    by_tests false false true d e f g = (omega arith, refl)
    by_tests false false false true e f g = (omega arith, refl)
    by_tests false false false false true f g = (omega arith, refl)
    by_tests false false false false false true g = (omega arith, refl)
    by_tests false false false false false false true = (omega arith, refl)
    by_tests false false false false false false false = core_is_word kind fits

file_key : (l : List ℕ) (others : List (List ℕ)) (what : Statement) → Ok what ≡ file_at others → ReadsBy (keyword_of (codes "file")) l others (Ok what)
unfolding keyword_of
file_key l others what is = is

file_read : (kind : ℕ) (name : Guid) (attributes : FileAttributes) → kind < 256 → IsGuid name
    → file_at (type_word kind ∷ (guid_text name ∷ (fixed_list attributes.fixed ++ align_list attributes.alignment))) ≡ Ok (said.File kind name attributes)
unfolding file_at file_type_at guid_at
file_read kind name attributes fits is = rw (type_read kind fits, guid_read name is, chosen_read attributes) refl

abbrev pub file_text : ℕ → Guid → FileAttributes → List ℕ
file_text kind name attributes = codes "file " ++ (type_word kind ++ (32 ∷ (guid_text name ++ (fixed_words attributes.fixed ++ alignment_words attributes.alignment))))

pub file_says : (kind : ℕ) (name : Guid) (attributes : FileAttributes) → kind < 256 → IsGuid name → Says (file_text kind name attributes) (said.File kind name attributes)
file_says kind name attributes fits is =
    let chosen = fixed_list attributes.fixed ++ align_list attributes.alignment in
    let others = type_word kind ∷ (guid_text name ∷ chosen) in
    let text = file_text kind name attributes in
    let same : text ≡ line_of (codes "file") others =
    ap (λ t. codes "file " ++ (type_word kind ++ (32 ∷ (guid_text name ++ t))))
    (ap (λ t. t ++ alignment_words attributes.alignment) (fixed_same attributes.fixed) ∙ ap (λ t. flat_map spaced (fixed_list attributes.fixed) ++ t) (align_same attributes.alignment)
    ∙ sym (flat_spaced (fixed_list attributes.fixed) (align_list attributes.alignment))) in
    let all : AllByRecursion IsWord others =
    (type_is_word kind fits, (guid_word name, all_then (fixed_list attributes.fixed) (align_list attributes.alignment) (fixed_are attributes.fixed) (align_are attributes.alignment))) in
    let split : words text ≡ codes "file" ∷ others = ap words same ∙ line_words (codes "file") others (omega arith, refl) all in
    record {
      says = says_by text (codes "file") others (said.File kind name attributes) split (file_key text others (said.File kind name attributes) (sym (file_read kind name attributes fits is)));
      is = record {
        clear = subst IsClear (sym same) (line_clear (codes "file") others (omega arith, refl) all);
        counts = counts_first text (codes "file") others split;
      };
    }

-- bytes to the end of a line
shown_words : (bytes : List ℕ) → IsBytes bytes → words (encode_lower bytes) ≡ (if length bytes == 0 then [] else encode_lower bytes ∷ [])
unfolding encode_with
shown_words [] fits = refl
shown_words (b ∷ bytes) fits =
    let some : (length (b ∷ bytes) == 0) ≡ false = grind (arith, nat_tests) in
    rw some (ap words (sym (append-nil (encode_lower (b ∷ bytes)))) ∙ word_then (encode_lower (b ∷ bytes)) [] (encoded_word (b ∷ bytes) (omega arith) fits) tt)

shown_by : (bytes : List ℕ) (test : Bool) → (length bytes == 0) ≡ test → IsBytes bytes → bytes_of_words (if test then [] else encode_lower bytes ∷ []) ≡ Ok bytes
unfolding bytes_of_words encode_with
shown_by [] true is fits = ap hex_answer (decode_of-encode_lower [] fits)
shown_by [] false is fits = absurd (false≢true (sym is))
shown_by (b ∷ bytes) true is fits = absurd (omega (arith, eqb-true (length (b ∷ bytes)) 0 is))
shown_by (b ∷ bytes) false is fits =
    ap hex_answer (ap decode_of (append-nil (encode_lower (b ∷ bytes))) ∙ decode_of-encode_lower (b ∷ bytes) fits)

shown_read : (bytes : List ℕ) → IsBytes bytes → bytes_of_words (words (encode_lower bytes)) ≡ Ok bytes
shown_read bytes fits = ap bytes_of_words (shown_words bytes fits) ∙ shown_by bytes (length bytes == 0) refl fits

shown_clear : (bytes : List ℕ) → IsBytes bytes → IsClear (encode_lower bytes)
shown_clear bytes fits = clear_of (encode_lower bytes) (encoded_inner bytes fits)

section_key : (l : List ℕ) (others : List (List ℕ)) (what : Statement) → Ok what ≡ section_at others → ReadsBy (keyword_of (codes "section")) l others (Ok what)
unfolding keyword_of
section_key l others what is = is

section_read : (kind : ℕ) (body : List ℕ) → kind < 256 → IsBytes body → section_at (encode_lower (kind ∷ []) ∷ words (encode_lower body)) ≡ Ok (said.Section kind body)
unfolding section_at section_type_at
section_read kind body fits bytes = rw (byte_read kind fits, shown_read body bytes) refl

abbrev pub section_text : ℕ → List ℕ → List ℕ
section_text kind body = codes "section " ++ (encode_lower (kind ∷ []) ++ (32 ∷ encode_lower body))

pub section_says : (kind : ℕ) (body : List ℕ) → kind < 256 → IsBytes body → Says (section_text kind body) (said.Section kind body)
section_says kind body fits bytes =
    let type = encode_lower (kind ∷ []) in
    let text = section_text kind body in
    let others = type ∷ words (encode_lower body) in
    let type_is = encoded_word (kind ∷ []) (omega arith) (one_fits kind fits) in
    let split : words text ≡ codes "section" ∷ others =
    word_then (codes "section") (32 ∷ (type ++ (32 ∷ encode_lower body))) (omega arith, refl) refl ∙ ap (λ ws. codes "section" ∷ ws) (word_then type (32 ∷ encode_lower body) type_is refl) in
    record {
      says = says_by text (codes "section") others (said.Section kind body) split (section_key text others (said.Section kind body) (sym (section_read kind body fits bytes)));
      is = record {
        clear = both_clear (codes "section ") (type ++ (32 ∷ encode_lower body)) refl (both_clear type (32 ∷ encode_lower body) (clear_of type type_is.1) (shown_clear body bytes));
        counts = counts_first text (codes "section") others split;
      };
    }

-- a name in a user interface section
ui_key : (l : List ℕ) (others : List (List ℕ)) (what : Statement) → Ok what ≡ ui_at others → ReadsBy (keyword_of (codes "ui")) l others (Ok what)
unfolding keyword_of
ui_key l others what is = is

name_byte_clean : (byte : ℕ) → is_name_byte byte ≡ true → is_clean byte ≡ true
name_byte_clean byte is =
    let no_comment = not ((byte == 35) || ((byte == 40) || (byte == 41))) in
    let first = and_parts (nat_lt 32 byte) (nat_le byte 126 && no_comment) is in
    let above : nat_lt 32 byte ≡ true = first.0 in
    let space : (byte == 32) ≡ false = grind (arith, nat_tests) in
    let tab : (byte == 9) ≡ false = grind (arith, nat_tests) in
    rw (above, space, tab) (and_parts (nat_le byte 126) no_comment first.1).1

name_clean : (name : List ℕ) → is_ui_name name ≡ true → IsClean name
name_clean [] shown = refl
name_clean (byte ∷ name) shown =
    let parts = and_parts (is_name_byte byte) (list_all is_name_byte name) shown in
    and_from (is_clean byte) (list_all is_clean name) (name_byte_clean byte parts.0) (name_clean name parts.1)

ui_read : (name : List ℕ) → is_ui_name name ≡ true → ui_at (name ∷ []) ≡ Ok (said.Section USER_INTERFACE (ui_bytes name))
unfolding ui_at ui_name_at
ui_read name shown = rw shown refl

pub ui_says : (name : List ℕ) → 0 < length name → is_ui_name name ≡ true → Says (codes "ui " ++ name) (said.Section USER_INTERFACE (ui_bytes name))
ui_says name some shown =
    let others = name ∷ [] in
    let text = codes "ui " ++ name in
    let same : text ≡ line_of (codes "ui") others = ap (λ t. codes "ui " ++ t) (sym (append-nil name)) in
    let all : AllByRecursion IsWord others = ((some, name_clean name shown), tt) in
    let split : words text ≡ codes "ui" ∷ others = ap words same ∙ line_words (codes "ui") others (omega arith, refl) all in
    record {
      says = says_by text (codes "ui") others (said.Section USER_INTERFACE (ui_bytes name)) split
          (ui_key text others (said.Section USER_INTERFACE (ui_bytes name)) (sym (ui_read name shown)));
      is = record {
        clear = subst IsClear (sym same) (line_clear (codes "ui") others (omega arith, refl) all);
        counts = counts_first text (codes "ui") others split;
      };
    }

body_key : (l : List ℕ) (others : List (List ℕ)) (what : Statement) → Ok what ≡ body_at others → ReadsBy (keyword_of (codes "body")) l others (Ok what)
unfolding keyword_of
body_key l others what is = is

body_read : (body : List ℕ) → IsBytes body → body_at (words (encode_lower body)) ≡ Ok (said.Body body)
unfolding body_at
body_read body bytes = rw (shown_read body bytes) refl

pub body_says : (body : List ℕ) → IsBytes body → Says (codes "body " ++ encode_lower body) (said.Body body)
body_says body bytes =
    let text = codes "body " ++ encode_lower body in
    let others = words (encode_lower body) in
    let split : words text ≡ codes "body" ∷ others = word_then (codes "body") (32 ∷ encode_lower body) (omega arith, refl) refl in
    record {
      says = says_by text (codes "body") others (said.Body body) split (body_key text others (said.Body body) (sym (body_read body bytes)));
      is = record { clear = both_clear (codes "body ") (encode_lower body) refl (shown_clear body bytes); counts = counts_first text (codes "body") others split };
    }

-- the line of a pad
abbrev pub IsPadLength : ℕ → Type 0
IsPadLength len = is_pad_length len ≡ true

pad_fits : (len : ℕ) → IsPadLength len → len < 2 ^ 64
pad_fits len is = grind (arith, nat_tests)

pad_key : (l : List ℕ) (others : List (List ℕ)) (what : Statement) → Ok what ≡ pad_at others → ReadsBy (keyword_of (codes "pad")) l others (Ok what)
unfolding keyword_of
pad_key l others what is = is

pad_read : (len : ℕ) → IsPadLength len → pad_at (decimal len ∷ []) ≡ Ok (said.Pad len)
unfolding pad_at pad_length_at
pad_read len is = rw (decimal_read len (pad_fits len is), is) refl

pub pad_says : (len : ℕ) → IsPadLength len → Says (codes "pad " ++ decimal len) (said.Pad len)
pad_says len is =
    let others = decimal len ∷ [] in
    let text = codes "pad " ++ decimal len in
    let same : text ≡ line_of (codes "pad") others = ap (λ t. codes "pad " ++ t) (sym (append-nil (decimal len))) in
    let all : AllByRecursion IsWord others = (decimal_word len (pad_fits len is), tt) in
    let split : words text ≡ codes "pad" ∷ others = ap words same ∙ line_words (codes "pad") others (omega arith, refl) all in
    record {
      says = says_by text (codes "pad") others (said.Pad len) split (pad_key text others (said.Pad len) (sym (pad_read len is)));
      is = record {
        clear = subst IsClear (sym same) (line_clear (codes "pad") others (omega arith, refl) all);
        counts = counts_first text (codes "pad") others split;
      };
    }

-- GUIDs
guids_key : (l : List ℕ) (others : List (List ℕ)) (what : Statement) → Ok what ≡ guids_at others → ReadsBy (keyword_of (codes "guids")) l others (Ok what)
unfolding keyword_of
guids_key l others what is = is

guid_list_read : (guids : List Guid) → AllByRecursion IsGuid guids → guids_of (map guid_text guids) ≡ Ok (flat_map (λ g. g.0) guids)
guid_list_read [] all = refl
guid_list_read (guid ∷ guids) all = rw (guid_read guid all.0, guid_list_read guids all.1) refl

guid_words_are : (guids : List Guid) → AllByRecursion IsWord (map guid_text guids)
guid_words_are [] = tt
guid_words_are (guid ∷ guids) = (guid_word guid, guid_words_are guids)

guids_same : (guids : List Guid) → flat_map told_guid guids ≡ flat_map spaced (map guid_text guids)
guids_same [] = refl
guids_same (guid ∷ guids) = ap (λ t. told_guid guid ++ t) (guids_same guids)

guids_read : (guids : List Guid) → AllByRecursion IsGuid guids → guids_at (map guid_text guids) ≡ Ok (said.Section RAW (flat_map (λ g. g.0) guids))
unfolding guids_at
guids_read guids all = rw (guid_list_read guids all) refl

pub guids_say : (guids : List Guid) → AllByRecursion IsGuid guids → Says (codes "guids" ++ flat_map told_guid guids) (said.Section RAW (flat_map (λ g. g.0) guids))
guids_say guids all =
    let text = codes "guids" ++ flat_map told_guid guids in
    let others = map guid_text guids in
    let same : text ≡ line_of (codes "guids") others = ap (λ t. codes "guids" ++ t) (guids_same guids) in
    let split : words text ≡ codes "guids" ∷ others = ap words same ∙ line_words (codes "guids") others (omega arith, refl) (guid_words_are guids) in
    record {
      says = says_by text (codes "guids") others (said.Section RAW (flat_map (λ g. g.0) guids)) split (guids_key text others (said.Section RAW (flat_map (λ g. g.0) guids)) (sym (guids_read guids all)));
      is = record {
        clear = subst IsClear (sym same) (line_clear (codes "guids") others (omega arith, refl) (guid_words_are guids));
        counts = counts_first text (codes "guids") others split;
      };
    }

-- expressions and scripts
phase_there : (phase : Phase) → phase_of (phase_word phase) ≡ Some phase
unfolding phase_of phase_word
phase_there Pei = refl
phase_there Dxe = refl

phase_is_word : (phase : Phase) → IsWord (phase_word phase)
unfolding phase_word
phase_is_word Pei = (omega arith, refl)
phase_is_word Dxe = (omega arith, refl)

depex_key : (l : List ℕ) (others : List (List ℕ)) (what : Statement) → ReadsDepex others (Ok what) → ReadsBy (keyword_of (codes "depex")) l others (Ok what)
unfolding keyword_of
depex_key l others what is = is

phase_read : (phase : Phase) (others : List (List ℕ)) → phase_at (phase_word phase ∷ others) ≡ Ok (phase, others)
unfolding phase_at
phase_read phase others = rw (phase_there phase) refl

depex_read : (phase : Phase) (e : Depex) → IsOfPhase phase e → IsExpression e → length (instructions e) ≤ 1024
    → ReadsDepex (phase_word phase ∷ words (expression_text e)) (Ok (said.Depex phase (bytes_of (instructions e))))
depex_read phase e suits is few =
    rw (phase_read phase (words (expression_text e))) (Ok (bytes_of (instructions e)), (e, (suits, expression_is e is), few, refl), refl)

pub depex_says : (phase : Phase) (e : Depex) → IsOfPhase phase e → IsExpression e → length (instructions e) ≤ 1024
    → Says (codes "depex " ++ (phase_word phase ++ (32 ∷ expression_text e))) (said.Depex phase (bytes_of (instructions e)))
depex_says phase e suits is few =
    let text = codes "depex " ++ (phase_word phase ++ (32 ∷ expression_text e)) in
    let others = phase_word phase ∷ words (expression_text e) in
    let split : words text ≡ codes "depex" ∷ others =
    word_then (codes "depex") (32 ∷ (phase_word phase ++ (32 ∷ expression_text e))) (omega arith, refl) refl
    ∙ ap (λ ws. codes "depex" ∷ ws) (word_then (phase_word phase) (32 ∷ expression_text e) (phase_is_word phase) refl) in
    record {
      says = says_by text (codes "depex") others (said.Depex phase (bytes_of (instructions e))) split (depex_key text others (said.Depex phase (bytes_of (instructions e))) (depex_read phase e suits is few));
      is = record {
        clear = both_clear (codes "depex ") (phase_word phase ++ (32 ∷ expression_text e)) refl (both_clear (phase_word phase) (32 ∷ expression_text e) (clear_of (phase_word phase) (phase_is_word phase).1) (expression_clear e));
        counts = counts_first text (codes "depex") others split;
      };
    }

script_key : (l : List ℕ) (others : List (List ℕ)) (what : Statement) → Ok what ≡ script_at others → ReadsBy (keyword_of (codes "script")) l others (Ok what)
unfolding keyword_of
script_key l others what is = is

script_read : (phase : Phase) → script_at (phase_word phase ∷ []) ≡ Ok (said.Script phase)
unfolding script_at
script_read phase = rw (phase_read phase []) refl

pub script_says : (phase : Phase) → Says (codes "script " ++ phase_word phase) (said.Script phase)
script_says phase =
    let text = codes "script " ++ phase_word phase in
    let others = phase_word phase ∷ [] in
    let same : text ≡ line_of (codes "script") others = ap (λ t. codes "script " ++ t) (sym (append-nil (phase_word phase))) in
    let all : AllByRecursion IsWord others = (phase_is_word phase, tt) in
    let split : words text ≡ codes "script" ∷ others = ap words same ∙ line_words (codes "script") others (omega arith, refl) all in
    record {
      says = says_by text (codes "script") others (said.Script phase) split (script_key text others (said.Script phase) (sym (script_read phase)));
      is = record {
        clear = subst IsClear (sym same) (line_clear (codes "script") others (omega arith, refl) all);
        counts = counts_first text (codes "script") others split;
      };
    }

pub block_says : Says (codes "block") said.Block
unfolding keyword_of
block_says = record { says = refl; is = record { clear = refl; counts = refl } }

pub end_says : Says (codes "end") said.End
unfolding keyword_of
end_says = record { says = refl; is = record { clear = refl; counts = refl } }

no_key : (c : Code) (l : List ℕ) (others : List (List ℕ)) → ReadsBy (keyword_of (name_of c)) l others (Ok (said.Action l))
unfolding keyword_of name_of
no_key code.Set l others = refl
no_key _ l others = refl

pub action_says : (phase : Phase) (a : Action) → IsGoodAction phase a → Says (action_text a) (said.Action (action_text a))
action_says phase a is =
    let shown = action_shown phase a is in
    let name = name_of (code_of_action a) in
    record {
      says = says_by (action_text a) name shown.others (said.Action (action_text a)) shown.first (no_key (code_of_action a) (action_text a) shown.others);
      is = record { clear = shown.clear; counts = counts_first (action_text a) name shown.others shown.first };
    }
