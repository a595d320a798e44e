-- What was read is an expression, and what was refused is malformed.
use Rattle.std.proofs.Common.{◌≡◌, ◌≢◌, ℕ, ◌+◌, ◌-◌, ◌≤◌, Bool, true, false, List, [], ◌∷◌, ◌++◌, length, map, Option, Some, None, Result, Ok, Err, refl, sym, ap, subst, ◌∙◌, append_assoc, arith, inl, inr, ⊎_elim, option_map, ◌⊎◌, IfOk, IfErr, append-nil, length-append}
use Rattle.std.specs.{Prelude.⊤, List.AllByRecursion}
use Rattle.std.proofs.{lemmas.Option.same_Some, lemmas.List.append_cancel_left, lemmas.List.length-map}
use Rattle.pi_base.specs.{declared.phase.Phase.Phase, declared.phase.Phase.TheVariants.Pei, declared.phase.Phase.TheVariants.Dxe}
use Rattle.depex_code.specs.{declared.opcode.Opcode.Opcode, declared.instruction.Instruction.Instruction, declared.depex.Depex.Depex}
use Rattle.depex_code.specs.declared.instruction.Instruction.TheVariants as instruction
use Rattle.depex_code.specs.declared.depex.Depex.TheVariants as depex
use Rattle.depex_code.specs.declared.fault.DepexFault.{DepexFault}
use Rattle.depex_code.specs.declared.fault.DepexFault.TheVariants.{Malformed, Memory}
use Rattle.depex_code.specs.{Tree.DepexTree, Tree.postfix, TreeCode.stack_after, Instruction.instruction_bytes, Instruction.IsWhole}
use Rattle.depex_code.specs.Expression.{instructions, sor_front, GoesOn, bytes_of, Reads, IsMalformed, IsRefused}
use Rattle.pi_base.specs.Lists.{Begins}
use Rattle.depex_code.specs.Reading.{instruction_at, Blocks, IsStuck, IsTreeRead, IsTreeDepex, IsBeside, from_of}
use Rattle.depex_code.proofs.Instructions.{instruction_takes, instruction_again, length-instruction_bytes}
use Rattle.depex_code.proofs.TreeWalk.{bytes_of-append, all-append}
use Rattle.depex_code.proofs.Machine.{State, start, named, within, next_state, runs, runs-tree, tree_state, MayBe, may_be, sor_whole, goes_on_taken, tree_goes_on}

-- nothing that stands next is taken
abbrev Stops : Phase → State → List ℕ → Type 0
Stops phase state rest = (x : Instruction) (more : List ℕ) → instruction_at rest ≡ Some (x, more) → next_state phase state x ≡ None

whole_at : (front : List Instruction) (x : Instruction) (behind : List Instruction) → AllByRecursion IsWhole (front ++ x ∷ behind) → IsWhole x
whole_at [] x behind all = all.0
whole_at (y ∷ front) x behind all = whole_at front x behind all.1

-- what stands behind a front, where the front and one more stand
pub next_there : (bytes : List ℕ) (front : List Instruction) (x : Instruction) (rest : List ℕ) → bytes ≡ bytes_of front ++ rest → Begins bytes (bytes_of (front ++ x ∷ [])) → (more : List ℕ) × (rest ≡ instruction_bytes x ++ more)
next_there bytes front x rest here begins =
    let both : bytes_of front ++ rest ≡ bytes_of front ++ (instruction_bytes x ++ begins.0) =
    sym here ∙ begins.1 ∙ ap (λ t. t ++ begins.0) (bytes_of-append front (x ∷ []) ∙ ap (λ t. bytes_of front ++ t) (append-nil (instruction_bytes x)))
    ∙ append_assoc (bytes_of front) (instruction_bytes x) begins.0 in
    (begins.0, append_cancel_left (bytes_of front) rest (instruction_bytes x ++ begins.0) both)

pub is_malformed : (phase : Phase) (bytes : List ℕ) (front : List Instruction) (state : State) (rest : List ℕ) (at : ℕ)
    → runs phase start front ≡ Some state → ((next : Instruction) × (behind : List Instruction) × GoesOn phase front (next ∷ behind)) → bytes ≡ bytes_of front ++ rest
    → length front ≤ 1024 → Stops phase state rest ⊎ (length front ≡ 1024) → at ≡ length (bytes_of front) → IsMalformed phase bytes at
is_malformed phase bytes front state rest at taken more here few stops place = record {
  front = front;
  more = more;
  here = (rest, here);
  few = few;
  stops = ⊎_elim (λ (none : Stops phase state rest). inl (λ next behind goes begins.
      let there = next_there bytes front next rest here begins in
      let whole : IsWhole next = whole_at front next behind (rw goes.3 at goes.2) in
      let read : instruction_at rest ≡ Some (next, there.0) = ap instruction_at there.1 ∙ instruction_again next there.0 whole in
      goes_on_taken phase front state next behind taken goes (none next there.0 read))) (λ full. inr full) stops;
  place = place;
}

blocked : (phase : Phase) (sor : Bool) (stack : List DepexTree) (x : Instruction) (more : List ℕ) → Blocks stack (Some (x, more)) → next_state phase (within sor stack) x ≡ None
blocked phase sor stack (instruction.Of code) more b = ap (option_map (within sor)) b
blocked phase sor [] instruction.End more b = refl
blocked phase sor (node ∷ []) instruction.End more b = absurd (b refl)
blocked phase sor (node ∷ other ∷ stack) instruction.End more b = refl
blocked phase sor stack (instruction.Before guid) more b = refl
blocked phase sor stack (instruction.After guid) more b = refl
blocked phase sor stack instruction.Sor more b = refl

-- a tree's expression may begin with it
abbrev pub IsTreeFirst : Phase → Instruction → Type 0
IsTreeFirst Pei x = ⊤
IsTreeFirst Dxe (instruction.Of code) = ⊤
IsTreeFirst Dxe instruction.End = ⊤
IsTreeFirst Dxe (instruction.Before guid) = ⊥
IsTreeFirst Dxe (instruction.After guid) = ⊥
IsTreeFirst Dxe instruction.Sor = ⊥

blocked_first : (phase : Phase) (x : Instruction) (more : List ℕ) → IsTreeFirst phase x → Blocks [] (Some (x, more)) → next_state phase start x ≡ None
blocked_first Pei (instruction.Of code) more first b = ap (option_map (within false)) b
blocked_first Dxe (instruction.Of code) more first b = ap (option_map (within false)) b
blocked_first Pei instruction.End more first b = refl
blocked_first Dxe instruction.End more first b = refl
blocked_first Pei (instruction.Before guid) more first b = refl
blocked_first Pei (instruction.After guid) more first b = refl
blocked_first Pei instruction.Sor more first b = refl
blocked_first Dxe (instruction.Before guid) more first b = absurd first
blocked_first Dxe (instruction.After guid) more first b = absurd first
blocked_first Dxe instruction.Sor more first b = absurd first

-- what a tree begins with, where there is no SOR in front
abbrev pub StartsTree : Phase → Bool → List ℕ → Type 0
StartsTree phase true tail = ⊤
StartsTree phase false tail = (x : Instruction) (more : List ℕ) → instruction_at tail ≡ Some (x, more) → IsTreeFirst phase x

stops_in_tree : (phase : Phase) (sor : Bool) (code : List Opcode) (stack : List DepexTree) (tail rest : List ℕ) → StartsTree phase sor tail → stack_after code [] ≡ Some stack → tail ≡ bytes_of (map instruction.Of code) ++ rest
    → Blocks stack (instruction_at rest) → Stops phase (tree_state sor code stack) rest
stops_in_tree phase true code stack tail rest starts leads here b x more e = blocked phase true stack x more (subst (Blocks stack) e b)
stops_in_tree phase false [] stack tail rest starts leads here b x more e =
    let none : [] ≡ stack = cc in
    blocked_first phase x more (starts x more (ap instruction_at here ∙ e)) (subst (λ (s : List DepexTree). Blocks s (Some (x, more))) (sym none) (subst (Blocks stack) e b))
stops_in_tree phase false (c ∷ code) stack tail rest starts leads here b x more e = blocked phase false stack x more (subst (Blocks stack) e b)

sor_long : (sor : Bool) → length (sor_front sor) ≡ from_of sor
sor_long true = refl
sor_long false = refl

sor_bytes_long : (sor : Bool) → length (bytes_of (sor_front sor)) ≡ from_of sor
sor_bytes_long true = refl
sor_bytes_long false = refl

sor_small : (sor : Bool) → from_of sor ≤ 1
sor_small true = omega arith
sor_small false = omega arith

in_front : (bytes tail rest : List ℕ) (xs ys : List Instruction) → bytes ≡ bytes_of xs ++ tail → tail ≡ bytes_of ys ++ rest → bytes ≡ bytes_of (xs ++ ys) ++ rest
in_front bytes tail rest xs ys here there =
    here ∙ ap (λ t. bytes_of xs ++ t) there ∙ sym (append_assoc (bytes_of xs) (bytes_of ys) rest) ∙ ap (λ t. t ++ rest) (sym (bytes_of-append xs ys))

tree_malformed : (phase : Phase) (sor : Bool) (bytes tail : List ℕ) (at : ℕ) → MayBe phase sor → bytes ≡ bytes_of (sor_front sor) ++ tail → StartsTree phase sor tail → IsStuck tail (from_of sor) (1024 - from_of sor) at → IsMalformed phase bytes at
tree_malformed phase sor bytes tail at may here starts stuck =
    let code = map instruction.Of stuck.code in
    let front = sor_front sor ++ code in
    let long : length front ≡ from_of sor + length stuck.code = length-append (sor_front sor) code ∙ ap (λ n. n + length code) (sor_long sor) ∙ ap (λ n. from_of sor + n) (length-map stuck.code instruction.Of) in
    let bytes_long : length (bytes_of front) ≡ from_of sor + length (bytes_of code) = ap length (bytes_of-append (sor_front sor) code) ∙ length-append (bytes_of (sor_front sor)) (bytes_of code) ∙ ap (λ n. n + length (bytes_of code)) (sor_bytes_long sor) in
    is_malformed phase bytes front (tree_state sor stuck.code stuck.stack) stuck.rest at
    (runs-tree phase sor stuck.code stuck.stack may stuck.leads)
    (tree_goes_on phase sor stuck.code stuck.stack may stuck.leads stuck.guids)
    (in_front bytes tail stuck.rest (sor_front sor) code here stuck.here)
    (omega (arith, long, stuck.few, sor_small sor))
    (⊎_elim (λ b. inl (stops_in_tree phase sor stuck.code stuck.stack tail stuck.rest starts stuck.leads stuck.here b)) (λ (full : length stuck.code ≡ 1024 - from_of sor). inr (omega (arith, long, full, sor_small sor))) stuck.stops)
    (stuck.place ∙ sym bytes_long)

tree_reads : (phase : Phase) (sor : Bool) (bytes tail : List ℕ) (node : DepexTree) → MayBe phase sor → bytes ≡ bytes_of (sor_front sor) ++ tail → IsTreeRead tail (1024 - from_of sor) node → Reads phase bytes (depex.Expr sor node)
tree_reads phase sor bytes tail node may here read =
    let code = map instruction.Of (postfix node) in
    record {
      suits = may_be phase sor node may;
      guids = all-append (sor_front sor) (code ++ instruction.End ∷ []) (sor_whole sor) (all-append code (instruction.End ∷ []) read.1 (tt, tt));
      here = (read.2.0, in_front bytes tail read.2.0 (sor_front sor) (code ++ instruction.End ∷ []) here read.2.1);
      few = omega (arith, length-append (sor_front sor) (code ++ instruction.End ∷ []), length-append code (instruction.End ∷ []), length-map (postfix node) instruction.Of, sor_long sor, sor_small sor, read.0);
    }

-- either way, for an expression that is a tree
pub tree_is : (phase : Phase) (sor : Bool) (bytes tail : List ℕ) (r : Result Depex DepexFault) → MayBe phase sor → bytes ≡ bytes_of (sor_front sor) ++ tail → StartsTree phase sor tail → IsTreeDepex sor tail r
    → IfOk r (Reads phase bytes) × IfErr r (IsRefused phase bytes)
tree_is phase sor bytes tail (Ok e) may here starts is = (rw is.1 (tree_reads phase sor bytes tail is.0 may here is.2), tt)
tree_is phase sor bytes tail (Err (Malformed at)) may here starts is = (tt, tree_malformed phase sor bytes tail at may here starts is)
tree_is phase sor bytes tail (Err Memory) may here starts is = (tt, tt)

-- an expression of BEFORE or AFTER, by its first opcode
pub record IsNamed (e : Depex) (x : Instruction) : Type 0 where
  pub spelled : instructions e ≡ x ∷ instruction.End ∷ []
  pub taken : next_state Dxe start x ≡ Some (named e)

named_stops : (e : Depex) (x : Instruction) (rest : List ℕ) → ((after : List ℕ) → instruction_at rest ≢ Some (instruction.End, after)) → Stops Dxe (named e) rest
named_stops e x rest none (instruction.Of code) more read = refl
named_stops e x rest none (instruction.Before guid) more read = refl
named_stops e x rest none (instruction.After guid) more read = refl
named_stops e x rest none instruction.Sor more read = refl
named_stops e x rest none instruction.End more read = absurd (none more read)

-- an opcode that was read, and what is left, in lengths
pub lengths_of : (bytes : List ℕ) (x : Instruction) (rest : List ℕ) → instruction_at bytes ≡ Some (x, rest) → (length rest ≤ length bytes) × (length bytes - length rest ≤ 17)
lengths_of bytes x rest read =
    let took = instruction_takes bytes x rest read in
    (omega (arith, ap length took.0, length-append (instruction_bytes x) rest), omega (arith, ap length took.0, length-append (instruction_bytes x) rest, length-instruction_bytes x took.1))

pub named_is : (e : Depex) (x : Instruction) (bytes rest : List ℕ) (r : Result Depex DepexFault) → IsNamed e x → instruction_at bytes ≡ Some (x, rest) → IsBeside e bytes rest r
    → IfOk r (Reads Dxe bytes) × IfErr r (IsRefused Dxe bytes)
named_is e x bytes rest (Ok read) of first is =
    let took = instruction_takes bytes x rest first in
    let end = instruction_takes rest instruction.End is.1.0 is.1.1 in
    let whole : AllByRecursion IsWhole (instructions e) = rw of.spelled (took.1, (tt, tt)) in
    let here : bytes ≡ bytes_of (instructions e) ++ is.1.0 = rw of.spelled (took.0 ∙ ap (λ t. instruction_bytes x ++ t) end.0 ∙ sym (append_assoc (instruction_bytes x) (8 ∷ []) is.1.0)) in
    (rw is.0 (record { suits = tt; guids = whole; here = (is.1.0, here); few = rw of.spelled (omega arith) }), tt)
named_is e x bytes rest (Err fault) of first is =
    let took = instruction_takes bytes x rest first in
    let here : bytes ≡ bytes_of (x ∷ []) ++ rest = took.0 ∙ ap (λ t. t ++ rest) (sym (append-nil (instruction_bytes x))) in
    let whole : AllByRecursion IsWhole (instructions e) = rw of.spelled (took.1, (tt, tt)) in
    let taken : runs Dxe start (x ∷ []) ≡ Some (named e) = rw of.taken refl in
    let place : length bytes - length rest ≡ length (bytes_of (x ∷ [])) = omega (arith, ap length here, length-append (bytes_of (x ∷ [])) rest) in
    let bad = is_malformed Dxe bytes (x ∷ []) (named e) rest (length bytes - length rest) taken (instruction.End, [], (e, tt, whole, of.spelled)) here (omega arith) (inl (named_stops e x rest is.1)) place in
    (tt, rw is.0 bad)

-- where no opcode stands
pub nothing_is : (bytes : List ℕ) → instruction_at bytes ≡ None → IsMalformed Dxe bytes 0
nothing_is bytes none =
    tree_malformed Dxe false bytes bytes 0 tt refl (λ x more e. let both : ◌≡◌ {A = Option (Instruction × List ℕ)} (Some (x, more)) None = sym e ∙ none in absurd cc)
    (record { code = []; stack = []; rest = bytes; leads = refl; guids = tt; here = refl; few = omega arith; stops = inl (rw none tt); place = refl })

pub first_is : (bytes : List ℕ) (x : Instruction) (rest : List ℕ) → instruction_at bytes ≡ Some (x, rest) → IsTreeFirst Dxe x → StartsTree Dxe false bytes
first_is bytes x rest first is y more e = let both : ◌≡◌ {A = Option (Instruction × List ℕ)} (Some (x, rest)) (Some (y, more)) = sym first ∙ e in let same : x ≡ y = ap (λ p. p.0) (same_Some (x, rest) (y, more) both) in rw (← same) is
