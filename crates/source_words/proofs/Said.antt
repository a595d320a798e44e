-- What a line says keeps its ranges.
use Rattle.std.proofs.Common.{◌≡◌, ℕ, suc, zero, ◌<◌, ◌≤◌, ◌^◌, ◌&&◌, Bool, true, false, eqb, ltb, List, [], ◌∷◌, ◌++◌, length, Option, Some, None, Result, Ok, Err, refl, subst, ◌∙◌, arith, nat_le, nat_lt, ◌==◌, if◌then◌else◌, codes, option_map, bytes_eq, IfOk, option_and_then, find, eqb-true}
use Rattle.std.specs.List.{list_all}
use Rattle.std.proofs.{lemmas.Bool.and_parts, lemmas.Bool.and_from, lemmas.Bool.Decides.nat_tests, lemmas.Option.same_Some}
use Rattle.std.proofs.lemmas.List.Folds.{list_all-append}
use Rattle.line_words.specs.Number.{number_of}
use Rattle.uuid.specs.Text.{parsed_hyphenated}
use Rattle.pi_base.specs.{GuidText.swap_fields, declared.phase.Phase.Phase}
use Rattle.pi_base.specs.{declared.phase.Phase.TheVariants.Pei, declared.phase.Phase.TheVariants.Dxe, declared.guid.Guid.Guid}
use Rattle.asm_text.specs.LineReading.{code_named}
use Rattle.act_code.specs.{declared.action.Action.Action, declared.action.Action.TheVariants.Log, declared.action.GuidArg.GuidArg}
use Rattle.act_code.specs.declared.action.GuidArg.TheVariants.{Inline, Register}
use Rattle.act_code.specs.{declared.code.Code.Code, declared.code.TheConstants.CODES}
use Rattle.act_code.specs.declared.code.Code.TheVariants as code
use Rattle.act_code.specs.Format.{Format, Value, is_within, is_hob, IsInRange, IsGuidArg, registers_in, blocks_in, guid_arg_registers, Nothing, Byte, Within, RegisterNumber, BlockNumber, Little, GuidBytes, WordNumber, Counted, Text, Registers, Descriptor, HobBody, Pair}
use Rattle.act_code.specs.Table.{name_of, is_code_of, format_of, made}
use Rattle.source_words.specs.{Words.is_keyword, Words.words, GuidWord.guid_of, GuidWord.unbraced}
use Rattle.source_words.specs.{declared.script.fault.LineFault.LineFault, declared.script.fault.Stop.Stop, Script.IsSaid}
use Rattle.source_words.specs.declared.script.fault.LineFault.TheVariants as fault
use Rattle.source_words.specs.Reading.{◌>>=◌, only_if, there, Gives}
use Rattle.source_words.specs.Word.{word_at, register_of, register_below, choice_of, kind_of, bytes_at}
use Rattle.source_words.specs.Operands.{read, register_at, within_at, choice_at, little_at, guid_at, counted_at, registers_within, registers_at, block_at, guid_arg_at, last_at, descriptor_at, hob_at, small_at, operands_at}
use Rattle.source_words.specs.Action.{action_of, code_of_name, code_or_fault, other_phase, log_of, logged, is_logged}

-- an answer came of a value
pub bound : {A B : Type 0} (r : Result A LineFault) (f : A → Result B LineFault) (y : B) → (r >>= f) ≡ Ok y → (x : A) × (r ≡ Ok x) × (f x ≡ Ok y)
bound (Ok x) f y e = (x, refl, e)
bound (Err w) f y e = absurd cc

pub passed : {A : Type 0} (test : Bool) (why : LineFault) (x y : A) → only_if test why x ≡ Ok y → (test ≡ true) × (x ≡ y)
passed true why x y e = (refl, cc)
passed false why x y e = absurd cc

pub found : {A : Type 0} (why : LineFault) (o : Option A) (y : A) → there why o ≡ Ok y → o ≡ Some y
found why (Some x) y e = cc
found why None y e = absurd cc

-- the value and the words behind it
abbrev At : Type 0 → Type 0
At A = A × List (List ℕ)

same_Ok : {A : Type 0} (x y : A) → ◌≡◌ {A = Result A LineFault} (Ok x) (Ok y) → x ≡ y
same_Ok x y e = cc

less : (n m : ℕ) → ltb n m ≡ true → n < m
less n m test = grind (arith, nat_tests)

is_less : (n m : ℕ) → n < m → ltb n m ≡ true
is_less n m h = grind (arith, nat_tests)

most : (n m : ℕ) → nat_le n m ≡ true → n ≤ m
most n m test = grind (arith, nat_tests)

within_is : (low high n : ℕ) → low ≤ n → n ≤ high → is_within low high n ≡ true
within_is low high n least few = grind (arith, nat_tests)

within_high : (low high n : ℕ) → is_within low high n ≡ true → n ≤ high
within_high low high n test = most n high (and_parts (nat_le low n) (nat_le n high) test).1

-- registers
below_by : (test : Bool) (n r : ℕ) → nat_lt n 16 ≡ test → (if test then Some n else None) ≡ Some r → r < 16
below_by true n r is e = subst (λ (m : ℕ). m < 16) (same_Some n r e) (less n 16 is)
below_by false n r is e = absurd cc

digits_below : (o : Option ℕ) (r : ℕ) → option_and_then register_below o ≡ Some r → r < 16
digits_below None r e = absurd cc
digits_below (Some n) r e = below_by (nat_lt n 16) n r refl e

first_by : (test : Bool) (o : Option ℕ) (r : ℕ) → (if test then option_and_then register_below o else None) ≡ Some r → r < 16
first_by true o r e = digits_below o r e
first_by false o r e = absurd cc

register_small : (word : List ℕ) (r : ℕ) → register_of word ≡ Some r → r < 16
unfolding register_of
register_small [] r e = absurd cc
register_small (first ∷ digits) r e = first_by (first == 114) (number_of digits) r e

register_by : (o : Option ℕ) (ws : List (List ℕ)) (x : At ℕ) → ((r : ℕ) → o ≡ Some r → r < 16)
    → (there fault.Register o >>= λ r. let pair : At ℕ = (r, ws) in Ok pair) ≡ Ok x → x.0 < 16
register_by None ws x small e = absurd cc
register_by (Some r) ws x small e = subst (λ (y : At ℕ). y.0 < 16) (same_Ok (r, ws) x e) (small r refl)

register_said : (ws : List (List ℕ)) (x : At ℕ) → register_at ws ≡ Ok x → x.0 < 16
unfolding register_at
register_said [] x e = absurd cc
register_said (w ∷ ws) x e = register_by (register_of w) ws x (register_small w) e

-- numbers
tested_by : (o : Option ℕ) (test : ℕ → Bool) (ws : List (List ℕ)) (x : At ℕ)
    → (there fault.Number o >>= λ n. let pair : At ℕ = (n, ws) in only_if (test n) fault.Range pair) ≡ Ok x → test x.0 ≡ true
tested_by None test ws x e = absurd cc
tested_by (Some n) test ws x e = let p = passed (test n) fault.Range (n, ws) x e in subst (λ (y : At ℕ). test y.0 ≡ true) p.1 p.0

within_said : (low high : ℕ) (ws : List (List ℕ)) (x : At ℕ) → within_at low high ws ≡ Ok x → is_within low high x.0 ≡ true
unfolding within_at
within_said low high [] x e = absurd cc
within_said low high (w ∷ ws) x e = tested_by (number_of w) (is_within low high) ws x e

little_said : (width : ℕ) (ws : List (List ℕ)) (x : At ℕ) → little_at width ws ≡ Ok x → x.0 < 256 ^ width
unfolding little_at
little_said width [] x e = absurd cc
little_said width (w ∷ ws) x e = less x.0 (256 ^ width) (tested_by (number_of w) (λ n. nat_lt n (256 ^ width)) ws x e)

-- one of two words, and of three
choice_small : (a b : Bool) (n : ℕ) → (if a then Some 0 else if b then Some 1 else None) ≡ Some n → n < 2
choice_small true b n e = subst (λ (m : ℕ). m < 2) (same_Some 0 n e) (omega arith)
choice_small false true n e = subst (λ (m : ℕ). m < 2) (same_Some 1 n e) (omega arith)
choice_small false false n e = absurd cc

choice_by : (o : Option ℕ) (ws : List (List ℕ)) (x : At ℕ) → ((n : ℕ) → o ≡ Some n → n < 2) → (there fault.Word o >>= λ n. let pair : At ℕ = (n, ws) in Ok pair) ≡ Ok x → x.0 < 2
choice_by None ws x small e = absurd cc
choice_by (Some n) ws x small e = subst (λ (y : At ℕ). y.0 < 2) (same_Ok (n, ws) x e) (small n refl)

choice_said : (none one : List ℕ) (ws : List (List ℕ)) (x : At ℕ) → choice_at none one ws ≡ Ok x → x.0 < 2
unfolding choice_at choice_of
choice_said none one [] x e = absurd cc
choice_said none one (w ∷ ws) x e = choice_by (choice_of none one w) ws x (λ n is. choice_small (is_keyword w none) (is_keyword w one) n is) e

kind_small : (a b c : Bool) (n : ℕ) → (if a then Some 0 else if b then Some 1 else if c then Some 2 else None) ≡ Some n → n < 3
kind_small true b c n e = subst (λ (m : ℕ). m < 3) (same_Some 0 n e) (omega arith)
kind_small false true c n e = subst (λ (m : ℕ). m < 3) (same_Some 1 n e) (omega arith)
kind_small false false true n e = subst (λ (m : ℕ). m < 3) (same_Some 2 n e) (omega arith)
kind_small false false false n e = absurd cc

kind_said : (word : List ℕ) (n : ℕ) → kind_of word ≡ Some n → n < 3
unfolding kind_of
kind_said word n e = kind_small (is_keyword word (codes "ppi")) (is_keyword word (codes "callback")) (is_keyword word (codes "dispatch")) n e

-- GUIDs
abbrev of_bytes : List ℕ → Guid
of_bytes bytes = record { 0 = bytes }

spelled_by : (o : Option (List ℕ)) (g : Guid) → option_map of_bytes (option_map swap_fields o) ≡ Some g → length g.0 ≡ 16
spelled_by None g e = absurd cc
spelled_by (Some bytes) g e = subst (λ (h : Guid). length h.0 ≡ 16) (same_Some (of_bytes (swap_fields bytes)) g e) refl

-- one of seven GUIDs, or the one that is spelled
named_by : (p q r s t u v : Guid) (a b c d e f h : Bool) (o : Option (List ℕ)) (g : Guid)
    → (if a then Some p else if b then Some q else if c then Some r else if d then Some s else if e then Some t else if f then Some u else if h then Some v else option_map of_bytes (option_map swap_fields o)) ≡ Some g
    → length p.0 ≡ 16 → length q.0 ≡ 16 → length r.0 ≡ 16 → length s.0 ≡ 16 → length t.0 ≡ 16 → length u.0 ≡ 16 → length v.0 ≡ 16 → length g.0 ≡ 16
named_by p q r s t u v true b c d e f h o x is k1 k2 k3 k4 k5 k6 k7 = subst (λ (y : Guid). length y.0 ≡ 16) (same_Some _ x is) k1
named_by p q r s t u v false true c d e f h o x is k1 k2 k3 k4 k5 k6 k7 = subst (λ (y : Guid). length y.0 ≡ 16) (same_Some _ x is) k2
named_by p q r s t u v false false true d e f h o x is k1 k2 k3 k4 k5 k6 k7 = subst (λ (y : Guid). length y.0 ≡ 16) (same_Some _ x is) k3
named_by p q r s t u v false false false true e f h o x is k1 k2 k3 k4 k5 k6 k7 = subst (λ (y : Guid). length y.0 ≡ 16) (same_Some _ x is) k4
named_by p q r s t u v false false false false true f h o x is k1 k2 k3 k4 k5 k6 k7 = subst (λ (y : Guid). length y.0 ≡ 16) (same_Some _ x is) k5
named_by p q r s t u v false false false false false true h o x is k1 k2 k3 k4 k5 k6 k7 = subst (λ (y : Guid). length y.0 ≡ 16) (same_Some _ x is) k6
named_by p q r s t u v false false false false false false true o x is k1 k2 k3 k4 k5 k6 k7 = subst (λ (y : Guid). length y.0 ≡ 16) (same_Some _ x is) k7
named_by p q r s t u v false false false false false false false o x is k1 k2 k3 k4 k5 k6 k7 = spelled_by o x is

guid_said : (word : List ℕ) (g : Guid) → guid_of word ≡ Some g → length g.0 ≡ 16
unfolding guid_of
guid_said word g is =
    named_by _ _ _ _ _ _ _ (bytes_eq word (codes "pei-apriori")) (bytes_eq word (codes "dxe-apriori")) (bytes_eq word (codes "volume-info-ppi")) (bytes_eq word (codes "memory-ppi")) (bytes_eq word (codes "dxe-ipl-ppi")) (bytes_eq word (codes "ffs2")) (bytes_eq word (codes "ffs3"))
    (parsed_hyphenated (unbraced word)) g is refl refl refl refl refl refl refl

guid_at_by : (o : Option Guid) (ws : List (List ℕ)) (x : At Guid) → ((g : Guid) → o ≡ Some g → length g.0 ≡ 16)
    → (there fault.Guid o >>= λ g. let pair : At Guid = (g, ws) in Ok pair) ≡ Ok x → length x.0.0 ≡ 16
guid_at_by None ws x long e = absurd cc
guid_at_by (Some g) ws x long e = subst (λ (y : At Guid). length y.0.0 ≡ 16) (same_Ok (g, ws) x e) (long g refl)

guid_at_said : (ws : List (List ℕ)) (x : At Guid) → guid_at ws ≡ Ok x → length x.0.0 ≡ 16
unfolding guid_at
guid_at_said [] x e = absurd cc
guid_at_said (w ∷ ws) x e = guid_at_by (guid_of w) ws x (guid_said w) e

-- lists
counted_said : (ws : List (List ℕ)) (x : At (List ℕ)) → counted_at ws ≡ Ok x → is_within 1 64 (length x.0) ≡ true
unfolding counted_at
counted_said ws x e =
    let b = bound (bytes_at ws) (λ bytes. only_if (is_within 1 64 (length bytes.0)) fault.Range bytes) x e in
    let p = passed (is_within 1 64 (length b.0.0)) fault.Range b.0 x b.2 in
    subst (λ (y : At (List ℕ)). is_within 1 64 (length y.0) ≡ true) p.1 p.0

-- so many registers at most
pub record AreFew (n : ℕ) (list : List ℕ) : Type 0 where
  pub few : length list ≤ n
  pub small : list_all (λ r. nat_lt r 16) list ≡ true

more_by : (o : Option ℕ) (others : Result (List ℕ) LineFault) (n : ℕ) (list : List ℕ) → ((r : ℕ) → o ≡ Some r → r < 16) → ((rest : List ℕ) → others ≡ Ok rest → AreFew n rest)
    → (there fault.Register o >>= λ first. others >>= λ rest. Ok (first ∷ rest)) ≡ Ok list → AreFew (suc n) list
more_by None others n list small few e = absurd cc
more_by (Some r) (Err why) n list small few e = absurd cc
more_by (Some r) (Ok rest) n list small few e =
    let f = few rest refl in
    subst (AreFew (suc n)) (same_Ok (r ∷ rest) list e) (record { few = omega (arith, f.few); small = and_from _ _ (is_less r 16 (small r refl)) f.small })

few_said : (n : ℕ) (ws : List (List ℕ)) (list : List ℕ) → registers_within n ws ≡ Ok list → AreFew n list
unfolding registers_within
few_said n [] list e = subst (AreFew n) (same_Ok [] list e) (record { few = omega arith; small = refl })
few_said zero (w ∷ ws) list e = absurd cc
few_said (suc n) (w ∷ ws) list e = more_by (register_of w) (registers_within n ws) n list (register_small w) (few_said n ws) e

registers_said : (ws : List (List ℕ)) (x : At (List ℕ)) → registers_at ws ≡ Ok x → (is_within 1 8 (length x.0) ≡ true) × (list_all (λ r. nat_lt r 16) x.0 ≡ true)
unfolding registers_at
registers_said ws x e =
    let l = bound (registers_within 8 ws) (λ list. let pair : At (List ℕ) = (list, []) in only_if (nat_lt 0 (length list)) fault.Missing pair) x e in
    let pair : At (List ℕ) = (l.0, []) in
    let p = passed (nat_lt 0 (length l.0)) fault.Missing pair x l.2 in
    let few = few_said 8 ws l.0 l.1 in
    let some : 0 < length l.0 = less 0 (length l.0) p.0 in
    let within : is_within 1 8 (length l.0) ≡ true = within_is 1 8 (length l.0) (omega arith) few.few in
    subst (λ (y : At (List ℕ)). (is_within 1 8 (length y.0) ≡ true) × (list_all (λ r. nat_lt r 16) y.0 ≡ true)) p.1 (within, few.small)

-- descriptors
block_said : (ws : List (List ℕ)) (x : At ℕ) → block_at ws ≡ Ok x → x.0 < 64
unfolding block_at
block_said [] x e = absurd cc
block_said (w ∷ ws) x e =
    let r = bound (only_if (is_keyword w (codes "block")) fault.Word ws) (λ rest. within_at 0 63 rest) x e in
    let n = within_high 0 63 x.0 (within_said 0 63 r.0 x r.2) in
    omega arith

abbrev IsArg : GuidArg → Type 0
IsArg arg = IsGuidArg arg × (list_all (λ r. nat_lt r 16) (guid_arg_registers arg) ≡ true)

arg_by : (test : Bool) (ws rest : List (List ℕ)) (x : At GuidArg)
    → (if test then register_at rest >>= (λ v. let pair : At GuidArg = (Register v.0, v.1) in Ok pair) else guid_at ws >>= (λ g. let pair : At GuidArg = (Inline g.0, g.1) in Ok pair)) ≡ Ok x → IsArg x.0
arg_by true ws rest x e =
    let v = bound (register_at rest) (λ v. let pair : At GuidArg = (Register v.0, v.1) in Ok pair) x e in
    let small = register_said rest v.0 v.1 in
    subst (λ (y : At GuidArg). IsArg y.0) (same_Ok (Register v.0.0, v.0.1) x v.2) (omega arith, and_from _ _ (is_less v.0.0 16 small) refl)
arg_by false ws rest x e =
    let g = bound (guid_at ws) (λ g. let pair : At GuidArg = (Inline g.0, g.1) in Ok pair) x e in
    subst (λ (y : At GuidArg). IsArg y.0) (same_Ok (Inline g.0.0, g.0.1) x g.2) (guid_at_said ws g.0 g.1, refl)

arg_said : (ws : List (List ℕ)) (x : At GuidArg) → guid_arg_at ws ≡ Ok x → IsArg x.0
unfolding guid_arg_at
arg_said [] x e = absurd cc
arg_said (w ∷ ws) x e = arg_by (is_keyword w (codes "at")) (w ∷ ws) ws x e

-- a register for a PPI, and a block for a notification
pub record IsLast (kind arg : ℕ) : Type 0 where
  pub range : arg < 256
  pub registers : list_all (λ r. nat_lt r 16) (if kind == 0 then arg ∷ [] else []) ≡ true
  pub blocks : list_all (λ b. nat_lt b 64) (if kind == 0 then [] else arg ∷ []) ≡ true

last_said : (kind : ℕ) (ws : List (List ℕ)) (x : At ℕ) → last_at kind ws ≡ Ok x → IsLast kind x.0
unfolding last_at
last_said zero ws x e = let small = register_said ws x e in record { range = omega arith; registers = and_from _ _ (is_less x.0 16 small) refl; blocks = refl }
last_said (suc kind) ws x e =
    let other : eqb (suc kind) 0 ≡ false = grind (arith, nat_tests) in
    let small = block_said ws x (rw other at e) in
    record { range = omega arith; registers = rw other refl; blocks = rw other (and_from _ _ (is_less x.0 64 small) refl) }

-- a value that a line says of a format
pub record IsSayable (format : Format) (value : Value format) : Type 0 where
  pub range : IsInRange format value
  pub registers : list_all (λ r. nat_lt r 16) (registers_in format value) ≡ true
  pub blocks : list_all (λ b. nat_lt b 64) (blocks_in format value) ≡ true

both_pass : (p : ℕ → Bool) (xs ys : List ℕ) → list_all p xs ≡ true → list_all p ys ≡ true → list_all p (xs ++ ys) ≡ true
both_pass p xs ys a b = list_all-append p xs ys ∙ rw (a, b) refl

abbrev described : ℕ → At GuidArg → At ℕ → At (ℕ × GuidArg × ℕ)
described kind guid arg = ((kind, guid.0, arg.0), arg.1)

descriptor_by : (o : Option ℕ) (ws : List (List ℕ)) (x : At (ℕ × GuidArg × ℕ)) → ((n : ℕ) → o ≡ Some n → n < 3)
    → (there fault.Word o >>= λ kind. guid_arg_at ws >>= λ guid. last_at kind guid.1 >>= λ arg. Ok (described kind guid arg)) ≡ Ok x → IsSayable Descriptor x.0
descriptor_by None ws x small e = absurd cc
descriptor_by (Some kind) ws x small e =
    let g = bound (guid_arg_at ws) (λ guid. last_at kind guid.1 >>= λ arg. Ok (described kind guid arg)) x e in
    let a = bound (last_at kind g.0.1) (λ arg. Ok (described kind g.0 arg)) x g.2 in
    let arg = arg_said ws g.0 g.1 in
    let last = last_said kind g.0.1 a.0 a.1 in
    let few : is_within 0 2 kind ≡ true = let n = small kind refl in within_is 0 2 kind (omega arith) (omega arith) in
    subst (λ (y : At (ℕ × GuidArg × ℕ)). IsSayable Descriptor y.0) (same_Ok (described kind g.0 a.0) x a.2) (record {
      range = (few, arg.0, last.range);
      registers = both_pass _ (guid_arg_registers g.0.0) _ arg.1 last.registers;
      blocks = last.blocks;
    })

descriptor_said : (ws : List (List ℕ)) (x : At (ℕ × GuidArg × ℕ)) → descriptor_at ws ≡ Ok x → IsSayable Descriptor x.0
unfolding descriptor_at
descriptor_said [] x e = absurd cc
descriptor_said (w ∷ ws) x e = descriptor_by (kind_of w) ws x (kind_said w) e

hob_said : (ws : List (List ℕ)) (x : At (ℕ × List ℕ)) → hob_at ws ≡ Ok x → is_hob x.0.0 (length x.0.1) ≡ true
unfolding hob_at
hob_said ws x e =
    let k = bound (within_at 0 255 ws) (λ kind. bytes_at kind.1 >>= λ body. let pair : At (ℕ × List ℕ) = ((kind.0, body.0), body.1) in only_if (is_hob kind.0 (length body.0)) fault.Hob pair) x e in
    let b = bound (bytes_at k.0.1) (λ body. let pair : At (ℕ × List ℕ) = ((k.0.0, body.0), body.1) in only_if (is_hob k.0.0 (length body.0)) fault.Hob pair) x k.2 in
    let p = passed (is_hob k.0.0 (length b.0.0)) fault.Hob ((k.0.0, b.0.0), b.0.1) x b.2 in
    subst (λ (y : At (ℕ × List ℕ)). is_hob y.0.0 (length y.0.1) ≡ true) p.1 p.0

-- the words that stand for small numbers are of formats that have both
abbrev pub small_fits : Code → ℕ → ℕ → Bool
small_fits code.BootMode low high = (low == 0) && (high == 1)
small_fits code.DxeInstall low high = (low == 0) && (high == 1)
small_fits _ low high = true

abbrev pub fits : Code → Format → Bool
fits c (Within low high) = small_fits c low high
fits c (Pair first second) = fits c first && fits c second
fits c _ = true

small_said : (c : Code) (low high : ℕ) (ws : List (List ℕ)) (x : At ℕ) → small_fits c low high ≡ true → small_at c low high ws ≡ Ok x → is_within low high x.0 ≡ true
small_said code.BootMode low high ws x fit e =
    let p = and_parts (low == 0) (high == 1) fit in
    let n = choice_said (codes "get") (codes "set") ws x e in
    within_is low high x.0 (omega (arith, eqb-true low 0 p.0)) (omega (arith, eqb-true high 1 p.1))
small_said code.DxeInstall low high ws x fit e =
    let p = and_parts (low == 0) (high == 1) fit in
    let n = choice_said (codes "new") (codes "on") ws x e in
    within_is low high x.0 (omega (arith, eqb-true low 0 p.0)) (omega (arith, eqb-true high 1 p.1))
small_said _ low high ws x fit e = within_said low high ws x e

read_said : (c : Code) (format : Format) (ws : List (List ℕ)) (x : At (Value format)) → fits c format ≡ true → read c format ws ≡ Ok x → IsSayable format x.0
read_said c Nothing ws x fit e = record { range = tt; registers = refl; blocks = refl }
read_said c Byte ws x fit e = let n = within_high 0 255 x.0 (within_said 0 255 ws x e) in record { range = omega arith; registers = refl; blocks = refl }
read_said c (Within low high) ws x fit e = record { range = small_said c low high ws x fit e; registers = refl; blocks = refl }
read_said c RegisterNumber ws x fit e = let n = register_said ws x e in record { range = omega arith; registers = and_from _ _ (is_less x.0 16 n) refl; blocks = refl }
read_said c BlockNumber ws x fit e = let n = block_said ws x e in record { range = omega arith; registers = refl; blocks = and_from _ _ (is_less x.0 64 n) refl }
read_said c (Little width) ws x fit e = record { range = little_said width ws x e; registers = refl; blocks = refl }
read_said c GuidBytes ws x fit e = record { range = guid_at_said ws x e; registers = refl; blocks = refl }
read_said c WordNumber ws x fit e = record { range = tt; registers = refl; blocks = refl }
read_said c Counted ws x fit e = record { range = counted_said ws x e; registers = refl; blocks = refl }
read_said c Text ws x fit e = absurd cc
read_said c Registers ws x fit e = let l = registers_said ws x e in record { range = l.0; registers = l.1; blocks = refl }
read_said c Descriptor ws x fit e = descriptor_said ws x e
read_said c HobBody ws x fit e = record { range = hob_said ws x e; registers = refl; blocks = refl }
read_said c (Pair first second) ws x fit e =
    let f = and_parts (fits c first) (fits c second) fit in
    let a = bound (read c first ws) (λ a. read c second a.1 >>= λ b. let pair : At (Value first × Value second) = ((a.0, b.0), b.1) in Ok pair) x e in
    let b = bound (read c second a.0.1) (λ b. let pair : At (Value first × Value second) = ((a.0.0, b.0), b.1) in Ok pair) x a.2 in
    let s = read_said c first ws a.0 f.0 a.1 in
    let t = read_said c second a.0.1 b.0 f.1 b.1 in
    subst (λ (y : At (Value first × Value second)). IsSayable (Pair first second) y.0) (same_Ok ((a.0.0, b.0.0), b.0.1) x b.2) (record {
      range = (s.range, t.range);
      registers = both_pass _ (registers_in first a.0.0) (registers_in second b.0.0) s.registers t.registers;
      blocks = both_pass _ (blocks_in first a.0.0) (blocks_in second b.0.0) s.blocks t.blocks;
    })

formats_fit : (c : Code) → fits c (format_of c) ≡ true
formats_fit code.Set = refl
formats_fit _ = refl

made_said : (phase : Phase) (c : Code) (v : Value (format_of c)) → is_code_of phase c ≡ true → IsSayable (format_of c) v → IsSaid phase (made c v)
made_said phase code.Set v of_phase good = record { is = record { of_phase = of_phase; in_range = good.range }; indexed = and_from _ _ good.registers good.blocks }
made_said phase _ v of_phase good = record { is = record { of_phase = of_phase; in_range = good.range }; indexed = and_from _ _ good.registers good.blocks }

operands_said : (phase : Phase) (c : Code) (ws : List (List ℕ)) (action : Action) → is_code_of phase c ≡ true → operands_at c ws ≡ Ok action → IsSaid phase action
unfolding operands_at
operands_said phase c ws action of_phase e =
    let x = bound (read c (format_of c) ws) (λ x. only_if (length x.1 == 0) fault.Extra (made c x.0)) action e in
    let p = passed (length x.0.1 == 0) fault.Extra (made c x.0.0) action x.2 in
    subst (IsSaid phase) p.1 (made_said phase c x.0.0 of_phase (read_said c (format_of c) ws x.0 (formats_fit c) x.1))

-- names
find_by : {X : Type 0} (p : X → Bool) (xs : List X) (x y : X) (test : Bool) → p x ≡ test → ((y : X) → find p xs ≡ Some y → p y ≡ true) → (if test then Some x else find p xs) ≡ Some y → p y ≡ true
find_by p xs x y true is others e = subst (λ z. p z ≡ true) (same_Some x y e) is
find_by p xs x y false is others e = others y e

find_passes : {X : Type 0} (p : X → Bool) (xs : List X) (y : X) → find p xs ≡ Some y → p y ≡ true
find_passes p [] y e = absurd cc
find_passes p (x ∷ xs) y e = find_by p xs x y (p x) refl (find_passes p xs) e

named_said : (phase : Phase) (name : List ℕ) (c : Code) → code_named phase name ≡ Some c → is_code_of phase c ≡ true
unfolding code_named
named_said phase name c e = (and_parts (is_code_of phase c) (bytes_eq (name_of c) name) (find_passes (λ code. is_code_of phase code && bytes_eq (name_of code) name) CODES c e)).0

code_by : (phase : Phase) (o others : Option Code) (c : Code) → ((c : Code) → o ≡ Some c → is_code_of phase c ≡ true) → code_or_fault o others ≡ Ok c → is_code_of phase c ≡ true
code_by phase (Some found) others c is e = subst (λ (d : Code). is_code_of phase d ≡ true) (same_Ok found c e) (is found refl)
code_by phase None others c is e = absurd cc

code_said : (phase : Phase) (name : List ℕ) (c : Code) → code_of_name phase name ≡ Ok c → is_code_of phase c ≡ true
unfolding code_of_name
code_said phase name c e = code_by phase (code_named phase name) (code_named (other_phase phase) name) c (named_said phase name) e

log_is : (phase : Phase) (text : List ℕ) → is_logged text ≡ true → IsSaid phase (Log text)
log_is Pei text test = record { is = record { of_phase = refl; in_range = and_parts (is_within 1 64 (length text)) (list_all (is_within 32 126) text) test }; indexed = refl }
log_is Dxe text test = record { is = record { of_phase = refl; in_range = and_parts (is_within 1 64 (length text)) (list_all (is_within 32 126) text) test }; indexed = refl }

log_said : (phase : Phase) (text : List ℕ) (action : Action) → log_of text ≡ Ok action → IsSaid phase action
log_said phase text action e =
    let p = passed (is_logged text) fault.Log (Log text) action e in
    subst (IsSaid phase) p.1 (log_is phase text p.0)

name_by : (phase : Phase) (test : Bool) (text name : List ℕ) (ws : List (List ℕ)) (action : Action)
    → (if test then log_of text else code_of_name phase name >>= (λ c. operands_at c ws)) ≡ Ok action → IsSaid phase action
name_by phase true text name ws action e = log_said phase text action e
name_by phase false text name ws action e =
    let c = bound (code_of_name phase name) (λ c. operands_at c ws) action e in
    operands_said phase c.0 ws action (code_said phase name c.0 c.1) c.2

line_by : (phase : Phase) (line : List ℕ) (ws : List (List ℕ)) (action : Action)
    → (word_at ws >>= λ w. if bytes_eq w.0 (codes "log") then log_of (logged line) else code_of_name phase w.0 >>= (λ c. operands_at c w.1)) ≡ Ok action → IsSaid phase action
line_by phase line [] action e = absurd cc
line_by phase line (w ∷ ws) action e = name_by phase (bytes_eq w (codes "log")) (logged line) w ws action e

-- the action that a line says
pub action_said : (phase : Phase) (line : List ℕ) (action : Action) → action_of phase line ≡ Ok action → IsSaid phase action
unfolding action_of
action_said phase line action e = line_by phase line (words line) action e

pub said_result : (phase : Phase) (line : List ℕ) (r : Result Action Stop) → Gives (λ x. x) r (action_of phase line) → IfOk r (IsSaid phase)
said_result phase line (Ok action) gives = action_said phase line action gives
said_result phase line (Err e) gives = tt
