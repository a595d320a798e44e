-- The ways in which an expression gets a truth. A way says of some GUIDs that they are installed or that they are not, of each GUID once; whatever else is installed, the expression then has that truth.
-- AND holds by a way of each side, where the two do not contradict each other; OR by a way of either side; and NOT asks the other question.
-- Of the ways of a part those are kept that change the fewest GUIDs, the leftmost first.
-- Own; PI 1.8, volume 1, "Dependency Expression Instruction Set".
use Rattle.std.specs.Prelude.{ℕ, zero, suc, Bool, true, false, not, if◌then◌else◌, nat_lt, length, List, [], ◌∷◌, ◌++◌, filter, take, flat_map, map, fold, Option, Some, None, option_and_then, option_to_list}
use Rattle.pi_base.specs.{declared.guid.Guid.Guid, Guids.same_guid}
use Rattle.depex_code.specs.Tree.{DepexTree, True, False, Push, Not, And, Or}
use Rattle.explain_text.specs.{declared.ways.literal.Literal.Literal, declared.ways.cheapest.TheConstants.MOST_WAYS}

-- what is said of GUIDs, that they are installed or not
abbrev pub Way : Type 0
Way = List Literal

-- what a way says of a GUID, if it says anything
abbrev pub said_of : Way → Guid → Option Bool
said_of [] guid = None
said_of (literal ∷ way) guid = if same_guid literal.guid guid then Some literal.there else said_of way guid

abbrev pub same_truth : Bool → Bool → Bool
same_truth true b = b
same_truth false b = not b

-- a literal more: none where the way says the opposite
abbrev pub added_by : Way → Literal → Option Bool → Option Way
added_by way literal None = Some (way ++ literal ∷ [])
added_by way literal (Some there) = if same_truth there literal.there then Some way else None

abbrev pub added : Way → Literal → Option Way
added way literal = added_by way literal (said_of way literal.guid)

-- two ways in one, unless they contradict each other
abbrev pub joined : Way → Way → Option Way
joined way [] = Some way
joined way (literal ∷ others) = option_and_then (λ more. joined more others) (added way literal)

-- a way with each of the other side, and each way of the one side with each of the other
abbrev pub joined_with : List Way → Way → List Way
joined_with seconds first = flat_map (λ second. option_to_list (joined first second)) seconds

abbrev pub crossed : List Way → List Way → List Way
crossed firsts seconds = flat_map (joined_with seconds) firsts

-- how many GUIDs a way changes: those of which it says what is not so
abbrev pub cost : Way → ℕ
cost way = length (filter (λ literal. not literal.is_so) way)

-- a way among others, behind those that change no more than it does
abbrev pub placed : Way → List Way → List Way
placed way [] = way ∷ []
placed way (other ∷ others) = if nat_lt (cost way) (cost other) then way ∷ other ∷ others else other ∷ placed way others

abbrev pub by_cost : List Way → List Way
by_cost ways = fold (λ sorted way. placed way sorted) [] ways

-- those that change the fewest
abbrev pub fewest : List Way → List Way
fewest ways = take MOST_WAYS (by_cost ways)

-- a way that says one thing; whether it is so now
abbrev pub says : Guid → Bool → Bool → List Way
says guid there is_so = (record { guid = guid; there = there; is_so = is_so } ∷ []) ∷ []

-- the ways in which a tree gets a truth, where the GUIDs that pass the test are installed now
abbrev pub ways : (Guid → Bool) → Bool → DepexTree → List Way
ways has true True = [] ∷ []
ways has false True = []
ways has true False = []
ways has false False = [] ∷ []
ways has true (Push guid) = says guid true (has guid)
ways has false (Push guid) = says guid false (not (has guid))
ways has true (Not node) = ways has false node
ways has false (Not node) = ways has true node
ways has true (And first second) = fewest (crossed (ways has true first) (ways has true second))
ways has false (And first second) = fewest (ways has false first ++ ways has false second)
ways has true (Or first second) = fewest (ways has true first ++ ways has true second)
ways has false (Or first second) = fewest (crossed (ways has false first) (ways has false second))

abbrev pub first_way : List Way → Option Way
first_way [] = None
first_way (way ∷ others) = Some way
