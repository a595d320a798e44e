-- Reading the opcodes of a tree, one after the other.
use Rattle.std.proofs.Common.{Bool, true, false, cond, ltb, ◌≡◌, ℕ, ◌+◌, ◌-◌, ◌*◌, ◌<◌, ◌≤◌, List, [], ◌∷◌, ◌++◌, length, map, Option, Some, None, refl, sym, ap, ◌∙◌, append_assoc, arith, inl, inr, ⊎_elim, option_map, option_and_then, ◌⊎◌, append-nil, length-append}
use Rattle.std.specs.List.{AllByRecursion}
use Rattle.std.proofs.lemmas.Option.{same_Some}
use Rattle.depex_code.specs.declared.opcode.Opcode.TheVariants as opcode
use Rattle.std.proofs.lemmas.List.{length_push, length-map, map_push}
use Rattle.depex_code.specs.{declared.opcode.Opcode.Opcode, declared.instruction.Instruction.Instruction, Tree.DepexTree, Tree.postfix}
use Rattle.depex_code.specs.declared.instruction.Instruction.TheVariants as instruction
use Rattle.depex_code.specs.{TreeCode.built, TreeCode.stack_after, Depth.depth_after, Instruction.instruction_bytes, Instruction.IsWhole}
use Rattle.depex_code.specs.Expression.{bytes_of}
use Rattle.depex_code.specs.Reading.{instruction_at, IsStuck, IsTreeRead, Blocks, BlocksAt}
use Rattle.depex_code.proofs.{Stacks.depth-built, Stacks.spelled-after, Instructions.instruction_takes, Instructions.length-bytes_of}

-- these opcodes were read, and this is left
pub record HasRead (bytes : List ℕ) (code : List Opcode) (depth : ℕ) (rest : List ℕ) : Type 0 where
  pub stack : List DepexTree
  pub leads : stack_after code [] ≡ Some stack
  pub deep : length stack ≡ depth
  pub within : depth ≤ length code
  pub guids : AllByRecursion IsWhole (map instruction.Of code)
  pub here : bytes ≡ bytes_of (map instruction.Of code) ++ rest

pub none_read : (bytes : List ℕ) → HasRead bytes [] 0 bytes
none_read bytes = record { stack = []; leads = refl; deep = refl; within = omega arith; guids = tt; here = refl }

-- two runs of opcodes, one after the other
pub stack_after-append : (code more : List Opcode) (stack : List DepexTree) → stack_after (code ++ more) stack ≡ option_and_then (λ s. stack_after more s) (stack_after code stack)
stack_after-append [] more stack = refl
stack_after-append (c ∷ code) more stack =
    elim (built c stack) as (λ b. option_and_then (λ s. stack_after (code ++ more) s) b ≡ option_and_then (λ s. stack_after more s) (option_and_then (λ s. stack_after code s) b)) [
      | None ↦ refl
      | Some next ↦ stack_after-append code more next
    ]

pub bytes_of-append : (xs ys : List Instruction) → bytes_of (xs ++ ys) ≡ bytes_of xs ++ bytes_of ys
bytes_of-append [] ys = refl
bytes_of-append (x ∷ xs) ys = ap (λ bs. instruction_bytes x ++ bs) (bytes_of-append xs ys) ∙ sym (append_assoc (instruction_bytes x) (bytes_of xs) (bytes_of ys))

pub all-append : (xs ys : List Instruction) → AllByRecursion IsWhole xs → AllByRecursion IsWhole ys → AllByRecursion IsWhole (xs ++ ys)
all-append [] ys a b = b
all-append (x ∷ xs) ys a b = (a.0, all-append xs ys a.1 b)

-- a depth that is told is that of a stack
built-deep : (made : Option (List DepexTree)) (after : ℕ) → option_map length made ≡ Some after → (next : List DepexTree) × (made ≡ Some next) × (length next ≡ after)
built-deep None after e = absurd cc
built-deep (Some next) after e = (next, refl, cc)

-- what stands behind what was read
behind : (bytes : List ℕ) (xs : List Instruction) (x : Instruction) (rest after : List ℕ) → bytes ≡ bytes_of xs ++ rest → rest ≡ instruction_bytes x ++ after → bytes ≡ bytes_of (xs ++ x ∷ []) ++ after
behind bytes xs x rest after here next =
    here ∙ ap (λ r. bytes_of xs ++ r) next ∙ sym (append_assoc (bytes_of xs) (instruction_bytes x) after)
    ∙ ap (λ t. (bytes_of xs ++ t) ++ after) (sym (append-nil (instruction_bytes x))) ∙ ap (λ t. t ++ after) (sym (bytes_of-append xs (x ∷ [])))

kept : (b : Bool) (x y : ℕ) → cond b None (Some x) ≡ Some y → x ≡ y
kept true x y e = absurd cc
kept false x y e = cc

-- an opcode leaves at most one value more
not_much_deeper : (code : Opcode) (depth deeper : ℕ) → depth_after code depth ≡ Some deeper → deeper ≤ depth + 1
not_much_deeper (opcode.Push guid) depth deeper e = omega (arith, same_Some (depth + 1) deeper e)
not_much_deeper opcode.True depth deeper e = omega (arith, same_Some (depth + 1) deeper e)
not_much_deeper opcode.False depth deeper e = omega (arith, same_Some (depth + 1) deeper e)
not_much_deeper opcode.Not depth deeper e = omega (arith, kept (ltb depth 1) depth deeper e)
not_much_deeper opcode.And depth deeper e = omega (arith, kept (ltb depth 2) (depth - 1) deeper e)
not_much_deeper opcode.Or depth deeper e = omega (arith, kept (ltb depth 2) (depth - 1) deeper e)

-- one opcode more
pub more_read : (bytes : List ℕ) (code : List Opcode) (depth : ℕ) (rest : List ℕ) (next : Opcode) (deeper : ℕ) (after : List ℕ) (longer : List Opcode)
    → HasRead bytes code depth rest → instruction_at rest ≡ Some (instruction.Of next, after) → depth_after next depth ≡ Some deeper → longer ≡ code ++ next ∷ [] → HasRead bytes longer deeper after
more_read bytes code depth rest next deeper after longer read is deep same =
    let made = built-deep (built next read.stack) deeper (sym (depth-built next read.stack) ∙ ap (depth_after next) read.deep ∙ deep) in
    let took = instruction_takes rest (instruction.Of next) after is in
    let mapped : map instruction.Of (code ++ next ∷ []) ≡ map instruction.Of code ++ instruction.Of next ∷ [] = map_push instruction.Of code next in
    rw same (record {
      stack = made.0;
      leads = stack_after-append code (next ∷ []) [] ∙ ap (option_and_then (λ s. stack_after (next ∷ []) s)) read.leads ∙ ap (option_and_then (λ s. Some s)) made.1;
      deep = made.2;
      within = omega (arith, not_much_deeper next depth deeper deep, read.within, length_push code next);
      guids = rw mapped (all-append (map instruction.Of code) (instruction.Of next ∷ []) read.guids (took.1, tt));
      here = rw mapped (behind bytes (map instruction.Of code) (instruction.Of next) rest after read.here took.0);
    })

-- what is left is no longer than the bytes
pub left-le : (bytes : List ℕ) (code : List Opcode) (depth : ℕ) (rest : List ℕ) → HasRead bytes code depth rest → length rest ≤ length bytes
left-le bytes code depth rest read = omega (arith, ap length read.here, length-append (bytes_of (map instruction.Of code)) rest)

-- and begins where the opcodes end
pub place_is : (bytes : List ℕ) (code : List Opcode) (depth : ℕ) (rest : List ℕ) → HasRead bytes code depth rest → length bytes - length rest ≡ length (bytes_of (map instruction.Of code))
place_is bytes code depth rest read = omega (arith, ap length read.here, length-append (bytes_of (map instruction.Of code)) rest)

-- which is near the front
pub place-near : (bytes : List ℕ) (code : List Opcode) (depth : ℕ) (rest : List ℕ) → HasRead bytes code depth rest → length bytes - length rest ≤ 17 * length code
place-near bytes code depth rest read =
    omega (arith, place_is bytes code depth rest read, length-bytes_of (map instruction.Of code) read.guids, length-map code instruction.Of)

one_on_stack : (stack : List DepexTree) → length stack ≡ 1 → (node : DepexTree) × (stack ≡ node ∷ [])
one_on_stack [] e = absurd (omega arith)
one_on_stack (node ∷ []) e = (node, refl)
one_on_stack (node ∷ other ∷ stack) e = absurd (omega arith)

-- one value left is that of a tree
pub tree_read : (bytes : List ℕ) (code : List Opcode) (rest : List ℕ) → HasRead bytes code 1 rest → (node : DepexTree) × (postfix node ≡ code)
tree_read bytes code rest read =
    let one = one_on_stack read.stack read.deep in
    (one.0, sym (spelled-after code [] (one.0 ∷ []) (read.leads ∙ ap Some one.1)))

-- END behind it
pub is_read : (bytes : List ℕ) (code : List Opcode) (rest after : List ℕ) (room : ℕ) (node : DepexTree) → HasRead bytes code 1 rest → instruction_at rest ≡ Some (instruction.End, after) → length code < room → postfix node ≡ code
    → IsTreeRead bytes room node
is_read bytes code rest after room node read next few is =
    rw is (few, read.guids, (after, behind bytes (map instruction.Of code) instruction.End rest after read.here (instruction_takes rest instruction.End after next).0))

blocks_built : (code : Opcode) (stack : List DepexTree) (made : Option (List DepexTree)) → built code stack ≡ made → option_map length made ≡ None → built code stack ≡ None
blocks_built code stack None is e = is
blocks_built code stack (Some next) is e = absurd cc

-- what blocks at a depth blocks at the stack
blocks : (stack : List DepexTree) (depth : ℕ) (next : Option (Instruction × List ℕ)) → length stack ≡ depth → BlocksAt depth next → Blocks stack next
blocks stack depth None deep b = tt
blocks stack depth (Some (instruction.Of code, rest)) deep b = blocks_built code stack (built code stack) refl (sym (depth-built code stack) ∙ ap (depth_after code) deep ∙ b)
blocks stack depth (Some (instruction.End, rest)) deep b = λ one. b (sym deep ∙ one)
blocks stack depth (Some (instruction.Before guid, rest)) deep b = tt
blocks stack depth (Some (instruction.After guid, rest)) deep b = tt
blocks stack depth (Some (instruction.Sor, rest)) deep b = tt

-- nothing goes on, or there is no room
pub is_stuck : (bytes : List ℕ) (code : List Opcode) (depth : ℕ) (rest : List ℕ) (from room : ℕ) → HasRead bytes code depth rest → length code ≤ room → BlocksAt depth (instruction_at rest) ⊎ (length code ≡ room)
    → IsStuck bytes from room (from + (length bytes - length rest))
is_stuck bytes code depth rest from room read few stops = record {
  code = code;
  stack = read.stack;
  rest = rest;
  leads = read.leads;
  guids = read.guids;
  here = read.here;
  few = few;
  stops = ⊎_elim (λ b. inl (blocks read.stack depth (instruction_at rest) read.deep b)) (λ full. inr full) stops;
  place = ap (λ n. from + n) (place_is bytes code depth rest read);
}
