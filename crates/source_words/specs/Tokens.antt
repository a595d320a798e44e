-- The words of an expression (EDK2's INF files, `[Depex]`): keywords in any case, brackets, GUIDs and their names.
use Rattle.std.specs.Prelude.{ℕ, if◌then◌else◌, List, map, codes, Option, Some, None}
use Rattle.pi_base.specs.declared.guid.Guid.{Guid}
use Rattle.source_words.specs.{Words.words, Words.is_keyword, GuidWord.guid_of, declared.depex.token.Token.Token}
use Rattle.source_words.specs.declared.depex.token.Token.TheVariants as token
use Rattle.source_words.specs.declared.depex.token.Leaf.TheVariants as leaf
use Rattle.source_words.specs.declared.depex.token.Operator.TheVariants as operator
use Rattle.source_words.specs.declared.depex.token.First.TheVariants as first

-- a GUID, or a word that an expression has not
abbrev pub of_guid : Option Guid → Token
of_guid (Some guid) = token.Leaf (leaf.Push guid)
of_guid None = token.Other

abbrev pub guid_token : List ℕ → Token
guid_token word = of_guid (guid_of word)

-- what a word is
unfoldable pub token_of : List ℕ → Token
token_of word =
    if is_keyword word (codes "(") then token.Open
    else if is_keyword word (codes ")") then token.Close
    else if is_keyword word (codes "not") then token.Not
    else if is_keyword word (codes "and") then token.Operator operator.And
    else if is_keyword word (codes "or") then token.Operator operator.Or
    else if is_keyword word (codes "true") then token.Leaf leaf.True
    else if is_keyword word (codes "false") then token.Leaf leaf.False
    else if is_keyword word (codes "end") then token.End
    else if is_keyword word (codes "sor") then token.First first.Sor
    else if is_keyword word (codes "before") then token.First first.Before
    else if is_keyword word (codes "after") then token.First first.After
    else guid_token word

-- the words of a text, as what they are
abbrev pub tokens : List ℕ → List Token
tokens text = map token_of (words text)
