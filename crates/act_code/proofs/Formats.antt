-- What is read of a format is what stands there, and what stands there is read.
use Rattle.std.proofs.Common.{◌≡◌, ℕ, suc, ◌+◌, ◌^◌, ◌<◌, ◌≤◌, Bool, true, false, eqb, List, [], ◌∷◌, ◌++◌, length, take, drop, Option, Some, None, refl, sym, ap, subst, ◌∙◌, append_assoc, arith, inl, inr, nat_le, ◌==◌, if◌then◌else◌, ◌⊎◌, eqb-true, take-append-drop, take_at, drop_at, length-append, length-take, get_or-drop, get_or-append-add}
use Rattle.std.specs.{Prelude.⊤, List.list_all}
use Rattle.std.proofs.{lemmas.Option.same_Some, lemmas.Bool.Decides.nat_tests, lemmas.Bool.false≢true}
use Rattle.pi_base.specs.{declared.word.Word.TheVariants.Success, Word.word_number, declared.word.Word.Word, declared.guid.Guid.Guid}
use Rattle.pi_base.specs.Field.{AreBytes, little_number, little_bytes}
use Rattle.act_code.specs.declared.action.GuidArg.{GuidArg}
use Rattle.act_code.specs.declared.action.GuidArg.TheVariants.{Inline, Register}
use Rattle.act_code.specs.Format.{Format, Value, spelled, IsInRange, IsGuidArg, guid_arg_bytes, is_within, is_hob, Nothing, Byte, Within, RegisterNumber, BlockNumber, Little, GuidBytes, WordNumber, Counted, Text, Registers, Descriptor, HobBody, Pair}
use Rattle.act_code.specs.Reading.{◌>>=◌, only_if, byte_at, within_at, little_at, guid_front, word_of, word_at, bytes_at, counted_at, text_at, guid_arg_at, descriptor_at, hob_at, read}
use Rattle.act_code.proofs.Fields.{little_reads, little_back, little_bounded, length-little}

-- the value of a step that gave one
pub bind_some : {A B : Type 0} (o : Option A) (f : A → Option B) (y : B) → (o >>= f) ≡ Some y → (x : A) × (o ≡ Some x) × (f x ≡ Some y)
bind_some None f y e = absurd cc
bind_some (Some x) f y e = (x, refl, e)

-- a test that was passed
pub passed : {A : Type 0} (test : Bool) (x y : A) → only_if test x ≡ Some y → (test ≡ true) × (x ≡ y)
passed true x y e = (refl, same_Some x y e)
passed false x y e = absurd cc

-- what was taken from the front, and what is left
pub record Takes (bytes text rest : List ℕ) : Type 0 where
  pub parts : bytes ≡ text ++ rest
  pub left : AreBytes rest

pub takes_then : (a x b y c : List ℕ) → Takes a x b → Takes b y c → Takes a (x ++ y) c
takes_then a x b y c p q = record { parts = p.parts ∙ ap (λ (t : List ℕ). x ++ t) q.parts ∙ sym (append_assoc x y c); left = q.left }

pub AreBytes-drop : (n : ℕ) (bytes : List ℕ) → AreBytes bytes → AreBytes (drop n bytes)
AreBytes-drop n bytes all i = rw (get_or-drop n bytes i 0) (all (n + i))

pub AreBytes-rest : (text rest : List ℕ) → AreBytes (text ++ rest) → AreBytes rest
AreBytes-rest text rest all i = rw (← get_or-append-add text rest i 0) (all (length text + i))

pub byte_takes : (bytes : List ℕ) (b : ℕ) (rest : List ℕ) → AreBytes bytes → byte_at bytes ≡ Some (b, rest) → Takes bytes (b ∷ []) rest × (b < 256)
unfolding byte_at
byte_takes [] b rest all e = absurd cc
byte_takes (x ∷ xs) b rest all e =
    let same = same_Some (x, xs) (b, rest) e in
    subst (λ (p : ℕ × List ℕ). Takes (x ∷ xs) (p.0 ∷ []) p.1 × (p.0 < 256)) same (record { parts = refl; left = λ i. all (suc i) }, all 0)

within_takes : (low high : ℕ) (bytes : List ℕ) (b : ℕ) (rest : List ℕ) → AreBytes bytes → within_at low high bytes ≡ Some (b, rest) → Takes bytes (b ∷ []) rest × (is_within low high b ≡ true)
unfolding within_at
within_takes low high bytes b rest all e =
    let x = bind_some (byte_at bytes) (λ x. only_if (is_within low high x.0) x) (b, rest) e in
    let p = passed (is_within low high x.0.0) x.0 (b, rest) x.2 in
    let t = byte_takes bytes x.0.0 x.0.1 all x.1 in
    subst (λ (p : ℕ × List ℕ). Takes bytes (p.0 ∷ []) p.1 × (is_within low high p.0 ≡ true)) p.1 (t.0, p.0)

pub long_enough : (n m : ℕ) → nat_le n m ≡ true → n ≤ m
long_enough n m e = grind (arith, nat_tests)

little_takes : (width : ℕ) (bytes : List ℕ) (n : ℕ) (rest : List ℕ) → AreBytes bytes → little_at width bytes ≡ Some (n, rest) → Takes bytes (little_bytes width n) rest × (n < 256 ^ width)
unfolding little_at
little_takes width bytes n rest all e =
    let p = passed (nat_le width (length bytes)) (little_number width bytes, drop width bytes) (n, rest) e in
    let long = long_enough width (length bytes) p.0 in
    let front : bytes ≡ little_bytes width (little_number width bytes) ++ drop width bytes = sym (take-append-drop width bytes) ∙ ap (λ t. t ++ drop width bytes) (sym (little_back width bytes all long)) in
    subst (λ (p : ℕ × List ℕ). Takes bytes (little_bytes width p.0) p.1 × (p.0 < 256 ^ width)) p.1 (record { parts = front; left = AreBytes-drop width bytes all }, little_bounded width bytes all)

guid_takes : (bytes : List ℕ) (g : Guid) (rest : List ℕ) → AreBytes bytes → guid_front bytes ≡ Some (g, rest) → Takes bytes g.0 rest × (length g.0 ≡ 16)
unfolding guid_front
guid_takes bytes g rest all e =
    let x : Guid × List ℕ = (record { 0 = take 16 bytes }, drop 16 bytes) in
    let p = passed (nat_le 16 (length bytes)) x (g, rest) e in
    let long = long_enough 16 (length bytes) p.0 in
    subst (λ (p : Guid × List ℕ). Takes bytes p.0.0 p.1 × (length p.0.0 ≡ 16)) p.1 (record { parts = sym (take-append-drop 16 bytes); left = AreBytes-drop 16 bytes all }, omega (arith, length-take 16 bytes, long))

bytes_takes : (n : ℕ) (bytes text rest : List ℕ) → AreBytes bytes → bytes_at n bytes ≡ Some (text, rest) → Takes bytes text rest × (length text ≡ n)
unfolding bytes_at
bytes_takes n bytes text rest all e =
    let p = passed (nat_le n (length bytes)) (take n bytes, drop n bytes) (text, rest) e in
    let long = long_enough n (length bytes) p.0 in
    subst (λ (p : List ℕ × List ℕ). Takes bytes p.0 p.1 × (length p.0 ≡ n)) p.1 (record { parts = sym (take-append-drop n bytes); left = AreBytes-drop n bytes all }, omega (arith, length-take n bytes, long))

counted_takes : (high : ℕ) (bytes text rest : List ℕ) → AreBytes bytes → counted_at high bytes ≡ Some (text, rest) → Takes bytes (length text ∷ text) rest × (is_within 1 high (length text) ≡ true)
unfolding counted_at
counted_takes high bytes text rest all e =
    let n = bind_some (within_at 1 high bytes) (λ n. bytes_at n.0 n.1) (text, rest) e in
    let t = within_takes 1 high bytes n.0.0 n.0.1 all n.1 in
    let u = bytes_takes n.0.0 n.0.1 text rest t.0.left n.2 in
    rw u.1 (takes_then bytes (n.0.0 ∷ []) n.0.1 text rest t.0 u.0, t.1)

text_takes : (bytes text rest : List ℕ) → AreBytes bytes → text_at bytes ≡ Some (text, rest) → Takes bytes (length text ∷ text) rest × (is_within 1 64 (length text) ≡ true) × (list_all (is_within 32 126) text ≡ true)
unfolding text_at
text_takes bytes text rest all e =
    let x = bind_some (counted_at 64 bytes) (λ t. only_if (list_all (is_within 32 126) t.0) t) (text, rest) e in
    let p = passed (list_all (is_within 32 126) x.0.0) x.0 (text, rest) x.2 in
    let t = counted_takes 64 bytes x.0.0 x.0.1 all x.1 in
    subst (λ (p : List ℕ × List ℕ). Takes bytes (length p.0 ∷ p.0) p.1 × (is_within 1 64 (length p.0) ≡ true) × (list_all (is_within 32 126) p.0 ≡ true)) p.1 (t.0, t.1, p.0)

either : {A : Type 0} (P : Option A → Type 0) (b : Bool) (x y : Option A) → (b ≡ true → P x) → P y → P (if b then x else y)
either P b x y here other = elim b as (λ c. (c ≡ true → P x) → P (if c then x else y)) [ true ↦ λ h. h refl | false ↦ λ h. other ] here

abbrev IsWordOf : ℕ → Option Word → Type 0
IsWordOf n None = ⊤
IsWordOf n (Some w) = word_number w ≡ n

word_of-is : (n : ℕ) → IsWordOf n (word_of n)
word_of-is n =
    either (IsWordOf n) (n == 0) _ _ (λ e. sym (eqb-true n 0 e))
    (either (IsWordOf n) (n == 1) _ _ (λ e. sym (eqb-true n 1 e))
    (either (IsWordOf n) (n == 2) _ _ (λ e. sym (eqb-true n 2 e))
    (either (IsWordOf n) (n == 3) _ _ (λ e. sym (eqb-true n 3 e))
    (either (IsWordOf n) (n == 4) _ _ (λ e. sym (eqb-true n 4 e))
    (either (IsWordOf n) (n == 5) _ _ (λ e. sym (eqb-true n 5 e))
    (either (IsWordOf n) (n == 6) _ _ (λ e. sym (eqb-true n 6 e)) tt))))))

word_of-number : (w : Word) → word_of (word_number w) ≡ Some w
word_of-number Success = refl
word_of-number _ = refl

word_takes : (bytes : List ℕ) (w : Word) (rest : List ℕ) → AreBytes bytes → word_at bytes ≡ Some (w, rest) → Takes bytes (word_number w ∷ []) rest × ⊤
unfolding word_at
word_takes bytes w rest all e =
    let b = bind_some (byte_at bytes) (λ b. word_of b.0 >>= λ word. Some (word, b.1)) (w, rest) e in
    let v = bind_some (word_of b.0.0) (λ word. Some (word, b.0.1)) (w, rest) b.2 in
    let t = byte_takes bytes b.0.0 b.0.1 all b.1 in
    let is : word_number v.0 ≡ b.0.0 = subst (IsWordOf b.0.0) v.1 (word_of-is b.0.0) in
    subst (λ (p : Word × List ℕ). Takes bytes (word_number p.0 ∷ []) p.1 × ⊤) (same_Some (v.0, b.0.1) (w, rest) v.2) (rw is t.0, tt)

pub chosen : {A : Type 0} (b : Bool) (x y z : A) → (if b then x else y) ≡ z → ((b ≡ true) × (x ≡ z)) ⊎ ((b ≡ false) × (y ≡ z))
chosen true x y z e = inl (refl, e)
chosen false x y z e = inr (refl, e)

is_one : (n : ℕ) → is_within 0 1 n ≡ true → eqb n 0 ≡ false → n ≡ 1
is_one n in_range not_zero = grind (arith, nat_tests)

guid_arg_takes : (bytes : List ℕ) (g : GuidArg) (rest : List ℕ) → AreBytes bytes → guid_arg_at bytes ≡ Some (g, rest) → Takes bytes (guid_arg_bytes g) rest × IsGuidArg g
unfolding guid_arg_at
guid_arg_takes bytes g rest all e =
    let f = bind_some (within_at 0 1 bytes) (λ form. if form.0 == 0 then guid_front form.1 >>= (λ guid. Some (Inline guid.0, guid.1)) else byte_at form.1 >>= (λ v. Some (Register v.0, v.1))) (g, rest) e in
    let t = within_takes 0 1 bytes f.0.0 f.0.1 all f.1 in
    elim (chosen (f.0.0 == 0) (guid_front f.0.1 >>= (λ guid. Some (Inline guid.0, guid.1))) (byte_at f.0.1 >>= (λ v. Some (Register v.0, v.1))) (Some (g, rest)) f.2) [
      | inl (zero_is, taken) ↦
          let x = bind_some (guid_front f.0.1) (λ guid. Some (Inline guid.0, guid.1)) (g, rest) taken in
          let u = guid_takes f.0.1 x.0.0 x.0.1 t.0.left x.1 in
          let form : f.0.0 ≡ 0 = eqb-true f.0.0 0 zero_is in
          subst (λ (p : GuidArg × List ℕ). Takes bytes (guid_arg_bytes p.0) p.1 × IsGuidArg p.0) (same_Some (Inline x.0.0, x.0.1) (g, rest) x.2)
          (takes_then bytes (0 ∷ []) f.0.1 x.0.0.0 x.0.1 (rw form at t.0) u.0, u.1)
      | inr (not_zero, taken) ↦
          let x = bind_some (byte_at f.0.1) (λ v. Some (Register v.0, v.1)) (g, rest) taken in
          let u = byte_takes f.0.1 x.0.0 x.0.1 t.0.left x.1 in
          let form : f.0.0 ≡ 1 = is_one f.0.0 t.1 not_zero in
          subst (λ (p : GuidArg × List ℕ). Takes bytes (guid_arg_bytes p.0) p.1 × IsGuidArg p.0) (same_Some (Register x.0.0, x.0.1) (g, rest) x.2)
          (takes_then bytes (1 ∷ []) f.0.1 (x.0.0 ∷ []) x.0.1 (rw form at t.0) u.0, u.1)
    ]

descriptor_takes : (bytes : List ℕ) (x : (ℕ × GuidArg × ℕ) × List ℕ) → AreBytes bytes → descriptor_at bytes ≡ Some x → Takes bytes (spelled Descriptor x.0) x.1 × IsInRange Descriptor x.0
unfolding descriptor_at
descriptor_takes bytes x all e =
    let k = bind_some (within_at 0 2 bytes) (λ kind. guid_arg_at kind.1 >>= λ guid. byte_at guid.1 >>= λ arg. Some ((kind.0, guid.0, arg.0), arg.1)) x e in
    let g = bind_some (guid_arg_at k.0.1) (λ guid. byte_at guid.1 >>= λ arg. Some ((k.0.0, guid.0, arg.0), arg.1)) x k.2 in
    let a = bind_some (byte_at g.0.1) (λ arg. Some ((k.0.0, g.0.0, arg.0), arg.1)) x g.2 in
    let t = within_takes 0 2 bytes k.0.0 k.0.1 all k.1 in
    let u = guid_arg_takes k.0.1 g.0.0 g.0.1 t.0.left g.1 in
    let v = byte_takes g.0.1 a.0.0 a.0.1 u.0.left a.1 in
    let made : (ℕ × GuidArg × ℕ) × List ℕ = ((k.0.0, g.0.0, a.0.0), a.0.1) in
    subst (λ (p : (ℕ × GuidArg × ℕ) × List ℕ). Takes bytes (spelled Descriptor p.0) p.1 × IsInRange Descriptor p.0) (same_Some made x a.2)
    (takes_then bytes (k.0.0 ∷ []) k.0.1 (guid_arg_bytes g.0.0 ++ a.0.0 ∷ []) a.0.1 t.0 (takes_then k.0.1 (guid_arg_bytes g.0.0) g.0.1 (a.0.0 ∷ []) a.0.1 u.0 v.0), (t.1, u.1, v.1))

hob_takes : (bytes : List ℕ) (x : (ℕ × List ℕ) × List ℕ) → AreBytes bytes → hob_at bytes ≡ Some x → Takes bytes (spelled HobBody x.0) x.1 × IsInRange HobBody x.0
unfolding hob_at
hob_takes bytes x all e =
    let k = bind_some (byte_at bytes) (λ kind. little_at 2 kind.1 >>= λ size. bytes_at size.0 size.1 >>= λ body. only_if (is_hob kind.0 size.0) ((kind.0, body.0), body.1)) x e in
    let s = bind_some (little_at 2 k.0.1) (λ size. bytes_at size.0 size.1 >>= λ body. only_if (is_hob k.0.0 size.0) ((k.0.0, body.0), body.1)) x k.2 in
    let b = bind_some (bytes_at s.0.0 s.0.1) (λ body. only_if (is_hob k.0.0 s.0.0) ((k.0.0, body.0), body.1)) x s.2 in
    let made : (ℕ × List ℕ) × List ℕ = ((k.0.0, b.0.0), b.0.1) in
    let p = passed (is_hob k.0.0 s.0.0) made x b.2 in
    let t = byte_takes bytes k.0.0 k.0.1 all k.1 in
    let u = little_takes 2 k.0.1 s.0.0 s.0.1 t.0.left s.1 in
    let v = bytes_takes s.0.0 s.0.1 b.0.0 b.0.1 u.0.left b.1 in
    let size : s.0.0 ≡ length b.0.0 = sym v.1 in
    subst (λ (q : (ℕ × List ℕ) × List ℕ). Takes bytes (spelled HobBody q.0) q.1 × IsInRange HobBody q.0) p.1
    (takes_then bytes (k.0.0 ∷ []) k.0.1 (little_bytes 2 (length b.0.0) ++ b.0.0) b.0.1 t.0 (takes_then k.0.1 (little_bytes 2 (length b.0.0)) s.0.1 b.0.0 b.0.1 (rw size at u.0) v.0), rw size at p.0)

-- what was read is spelled so, and in range
pub read_takes : (format : Format) (bytes : List ℕ) (x : Value format × List ℕ) → AreBytes bytes → read format bytes ≡ Some x → Takes bytes (spelled format x.0) x.1 × IsInRange format x.0
read_takes Nothing bytes x all e = subst (λ (p : Unit {0} × List ℕ). Takes bytes [] p.1 × ⊤) (same_Some (tt, bytes) x e) (record { parts = refl; left = all }, tt)
read_takes Byte bytes x all e = byte_takes bytes x.0 x.1 all e
read_takes (Within low high) bytes x all e = within_takes low high bytes x.0 x.1 all e
read_takes RegisterNumber bytes x all e = byte_takes bytes x.0 x.1 all e
read_takes BlockNumber bytes x all e = byte_takes bytes x.0 x.1 all e
read_takes (Little width) bytes x all e = little_takes width bytes x.0 x.1 all e
read_takes GuidBytes bytes x all e = guid_takes bytes x.0 x.1 all e
read_takes WordNumber bytes x all e = word_takes bytes x.0 x.1 all e
read_takes Counted bytes x all e = counted_takes 64 bytes x.0 x.1 all e
read_takes Text bytes x all e = let t = text_takes bytes x.0 x.1 all e in (t.0, (t.1, t.2))
read_takes Registers bytes x all e = counted_takes 8 bytes x.0 x.1 all e
read_takes Descriptor bytes x all e = descriptor_takes bytes x all e
read_takes HobBody bytes x all e = hob_takes bytes x all e
read_takes (Pair first second) bytes x all e =
    let a = bind_some (read first bytes) (λ p. read second p.1 >>= λ q. Some ((p.0, q.0), q.1)) x e in
    let b = bind_some (read second a.0.1) (λ q. Some ((a.0.0, q.0), q.1)) x a.2 in
    let t = read_takes first bytes a.0 all a.1 in
    let u = read_takes second a.0.1 b.0 t.0.left b.1 in
    let made : (Value first × Value second) × List ℕ = ((a.0.0, b.0.0), b.0.1) in
    subst (λ (p : (Value first × Value second) × List ℕ). Takes bytes (spelled (Pair first second) p.0) p.1 × IsInRange (Pair first second) p.0) (same_Some made x b.2)
    (takes_then bytes (spelled first a.0.0) a.0.1 (spelled second b.0.0) b.0.1 t.0 u.0, (t.1, u.1))

-- ---- what stands there is read

within_again : (low high n : ℕ) (rest : List ℕ) → is_within low high n ≡ true → within_at low high (n ∷ rest) ≡ Some (n, rest)
unfolding within_at byte_at
within_again low high n rest is = rw is refl

pub long_tested : (n m : ℕ) → n ≤ m → nat_le n m ≡ true
long_tested n m le = grind (arith, nat_tests)

little_again : (width n : ℕ) (rest : List ℕ) → n < 256 ^ width → little_at width (little_bytes width n ++ rest) ≡ Some (n, rest)
unfolding little_at
little_again width n rest fits =
    let long : nat_le width (length (little_bytes width n ++ rest)) ≡ true = long_tested width _ (omega (arith, length-append (little_bytes width n) rest, length-little width n)) in
    rw (long, little_reads width n rest fits, drop_at (little_bytes width n) rest width (length-little width n)) refl

guid_again : (g : Guid) (rest : List ℕ) → length g.0 ≡ 16 → guid_front (g.0 ++ rest) ≡ Some (g, rest)
unfolding guid_front
guid_again g rest whole =
    let long : nat_le 16 (length (g.0 ++ rest)) ≡ true = long_tested 16 _ (omega (arith, length-append g.0 rest)) in
    rw (long, take_at g.0 rest 16 whole, drop_at g.0 rest 16 whole) refl

bytes_again : (n : ℕ) (text rest : List ℕ) → length text ≡ n → bytes_at n (text ++ rest) ≡ Some (text, rest)
unfolding bytes_at
bytes_again n text rest is =
    let long : nat_le n (length (text ++ rest)) ≡ true = long_tested n _ (omega (arith, length-append text rest)) in
    rw (long, take_at text rest n is, drop_at text rest n is) refl

counted_again : (high : ℕ) (text rest : List ℕ) → is_within 1 high (length text) ≡ true → counted_at high (length text ∷ (text ++ rest)) ≡ Some (text, rest)
unfolding counted_at
counted_again high text rest is = rw (within_again 1 high (length text) (text ++ rest) is, bytes_again (length text) text rest refl) refl

text_again : (text rest : List ℕ) → is_within 1 64 (length text) ≡ true → list_all (is_within 32 126) text ≡ true → text_at (length text ∷ (text ++ rest)) ≡ Some (text, rest)
unfolding text_at
text_again text rest is all = rw (counted_again 64 text rest is, all) refl

guid_arg_again : (g : GuidArg) (rest : List ℕ) → IsGuidArg g → guid_arg_at (guid_arg_bytes g ++ rest) ≡ Some (g, rest)
unfolding guid_arg_at within_at byte_at
guid_arg_again (Inline g) rest whole = rw (guid_again g rest whole) refl
guid_arg_again (Register v) rest small = refl

descriptor_again : (v : ℕ × GuidArg × ℕ) (rest : List ℕ) → IsInRange Descriptor v → descriptor_at (spelled Descriptor v ++ rest) ≡ Some (v, rest)
unfolding descriptor_at byte_at
descriptor_again v rest is =
    let grouped : (guid_arg_bytes v.1 ++ v.2 ∷ []) ++ rest ≡ guid_arg_bytes v.1 ++ (v.2 ∷ rest) = append_assoc (guid_arg_bytes v.1) (v.2 ∷ []) rest in
    rw (within_again 0 2 v.0 ((guid_arg_bytes v.1 ++ v.2 ∷ []) ++ rest) is.0, grouped, guid_arg_again v.1 (v.2 ∷ rest) is.1) refl

pub within_le : (low high n : ℕ) → is_within low high n ≡ true → n ≤ high
within_le low high n is = grind (arith, nat_tests)

pub within_small : (low high n : ℕ) → high < 65536 → is_within low high n ≡ true → n < 65536
within_small low high n small is = grind (arith, nat_tests)

pub hob_small : (kind size : ℕ) → is_hob kind size ≡ true → size < 256 ^ 2
hob_small kind size is =
    elim (chosen (kind == 3) (size == 40) _ true is) [
      | inl (_, e) ↦ omega (arith, eqb-true size 40 e)
      | inr (_, is4) ↦ elim (chosen (kind == 4) (is_within 16 1024 size) _ true is4) [
        | inl (_, e) ↦ within_small 16 1024 size (omega arith) e
        | inr (_, is5) ↦ elim (chosen (kind == 5) (size == 16) _ true is5) [
          | inl (_, e) ↦ omega (arith, eqb-true size 16 e)
          | inr (_, is6) ↦ elim (chosen (kind == 6) (size == 8) _ true is6) [
            | inl (_, e) ↦ omega (arith, eqb-true size 8 e)
            | inr (_, is9) ↦ elim (chosen (kind == 9) (size == 48) false true is9) [
              | inl (_, e) ↦ omega (arith, eqb-true size 48 e)
              | inr (_, e) ↦ absurd (false≢true e)
            ]
          ]
        ]
      ]
    ]

hob_again : (v : ℕ × List ℕ) (rest : List ℕ) → IsInRange HobBody v → hob_at (spelled HobBody v ++ rest) ≡ Some (v, rest)
unfolding hob_at byte_at
hob_again v rest is =
    let grouped : (little_bytes 2 (length v.1) ++ v.1) ++ rest ≡ little_bytes 2 (length v.1) ++ (v.1 ++ rest) = append_assoc (little_bytes 2 (length v.1)) v.1 rest in
    rw (grouped, little_again 2 (length v.1) (v.1 ++ rest) (hob_small v.0 (length v.1) is), bytes_again (length v.1) v.1 rest refl, is) refl

pub read_again : (format : Format) (v : Value format) (rest : List ℕ) → IsInRange format v → read format (spelled format v ++ rest) ≡ Some (v, rest)
unfolding byte_at word_at
read_again Nothing v rest is = refl
read_again Byte v rest is = refl
read_again (Within low high) v rest is = within_again low high v rest is
read_again RegisterNumber v rest is = refl
read_again BlockNumber v rest is = refl
read_again (Little width) v rest is = little_again width v rest is
read_again GuidBytes v rest is = guid_again v rest is
read_again WordNumber v rest is = rw (word_of-number v) refl
read_again Counted v rest is = counted_again 64 v rest is
read_again Text v rest is = text_again v rest is.0 is.1
read_again Registers v rest is = counted_again 8 v rest is
read_again Descriptor v rest is = descriptor_again v rest is
read_again HobBody v rest is = hob_again v rest is
read_again (Pair first second) v rest is =
    let grouped : (spelled first v.0 ++ spelled second v.1) ++ rest ≡ spelled first v.0 ++ (spelled second v.1 ++ rest) = append_assoc (spelled first v.0) (spelled second v.1) rest in
    ap (read (Pair first second)) grouped ∙ rw (read_again first v.0 (spelled second v.1 ++ rest) is.0, read_again second v.1 rest is.1) refl
