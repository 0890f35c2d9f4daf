-- The words that begin statements, and where these stand.
use Rattle.std.specs.Prelude.{ℕ, Bool, true, false, List, [], ◌∷◌, codes, if◌then◌else◌}
use Rattle.std.specs.Str.{bytes_eq}
use Rattle.std.specs.declared.option.Option.{Option}
use Rattle.std.specs.declared.option.Option.TheVariants.{None, Some}
use Rattle.link_script.specs.declared.script.statement.Keyword.{Keyword}
use Rattle.link_script.specs.declared.script.statement.Keyword.TheVariants as word
use Rattle.link_script.specs.declared.script.statement.Block.{Block}
use Rattle.link_script.specs.declared.script.statement.Block.TheVariants as block

-- each keyword as it is written
abbrev pub spellings : List (List ℕ × Keyword)
spellings =
    (codes "file", word.File) ∷ (codes "package", word.Package) ∷ (codes "syntax", word.Syntax)
    ∷ (codes "import", word.Import) ∷ (codes "public", word.Public)
    ∷ (codes "weak", word.Weak) ∷ (codes "at", word.At) ∷ (codes "service", word.Service)
    ∷ (codes "message", word.Message) ∷ (codes "enum", word.Enum)
    ∷ (codes "extend", word.Extend) ∷ (codes "field", word.Field) ∷ (codes "oneof", word.Oneof)
    ∷ (codes "reserved", word.Reserved)
    ∷ (codes "extensions", word.Extensions) ∷ (codes "value", word.Value)
    ∷ (codes "alias", word.Alias) ∷ (codes "method", word.Method)
    ∷ (codes "json", word.Json) ∷ (codes "packed", word.Packed) ∷ (codes "default", word.Default)
    ∷ (codes "end", word.End) ∷ (codes "link", word.Link) ∷ (codes "find", word.Find)
    ∷ (codes "walk", word.Walk) ∷ (codes "refs", word.Refs)
    ∷ (codes "ext", word.Ext) ∷ (codes "relink", word.Relink) ∷ []

-- the keyword of the first spelling that is a text
abbrev pub spelled : List (List ℕ × Keyword) → List ℕ → Option Keyword
spelled [] text = None
spelled (s ∷ ss) text = if bytes_eq s.0 text then Some s.1 else spelled ss text

-- the keyword that a word spells
abbrev pub keyword_of : List ℕ → Option Keyword
keyword_of text = spelled spellings text

-- the block that a statement opens
abbrev pub opened : Keyword → Option Block
opened word.File = Some block.File
opened word.Message = Some block.Message
opened word.Enum = Some block.Enum
opened word.Service = Some block.Service
opened _ = None

abbrev outside : Keyword → Bool
outside word.File = true
outside word.Link = true
outside word.Find = true
outside word.Walk = true
outside word.Refs = true
outside word.Ext = true
outside word.Relink = true
outside _ = false

-- whether a statement may stand in the block of a file
abbrev pub in_files : Keyword → Bool
in_files word.Package = true
in_files word.Syntax = true
in_files word.Import = true
in_files word.Public = true
in_files word.Weak = true
in_files word.At = true
in_files word.Service = true
in_files word.Message = true
in_files word.Enum = true
in_files word.Extend = true
in_files word.End = true
in_files _ = false

-- whether a statement may stand in the block of a message
abbrev pub in_messages : Keyword → Bool
in_messages word.Message = true
in_messages word.Enum = true
in_messages word.Extend = true
in_messages word.Field = true
in_messages word.Oneof = true
in_messages word.Reserved = true
in_messages word.Extensions = true
in_messages word.End = true
in_messages _ = false

abbrev in_enums : Keyword → Bool
in_enums word.Value = true
in_enums word.Reserved = true
in_enums word.Alias = true
in_enums word.End = true
in_enums _ = false

abbrev in_services : Keyword → Bool
in_services word.Method = true
in_services word.End = true
in_services _ = false

-- whether a statement may stand in the innermost open block, which comes first, or outside of all
abbrev pub stands : List Block → Keyword → Bool
stands [] keyword = outside keyword
stands (block.File ∷ _) keyword = in_files keyword
stands (block.Message ∷ _) keyword = in_messages keyword
stands (block.Enum ∷ _) keyword = in_enums keyword
stands (block.Service ∷ _) keyword = in_services keyword

-- whether a statement says more of the field or the extension before it: `json`, `packed` and
-- `default` do
abbrev pub says_more : Keyword → Bool
says_more word.Json = true
says_more word.Packed = true
says_more word.Default = true
says_more _ = false

-- whether more may be said after a statement: after `field`, `extend`, `json`, `packed` and
-- `default`
abbrev pub may_be_amended : Keyword → Bool
may_be_amended word.Field = true
may_be_amended word.Extend = true
may_be_amended keyword = says_more keyword

-- what stands before a statement: the open blocks, the innermost first, and whether more may be
-- said of the last statement
pub record Standing : Type 0 where
  pub blocks : List Block
  pub more : Bool

-- what stands before the first statement: no open block, and nothing of which more may be said
abbrev pub at_start : Standing
at_start = record { blocks = []; more = false }

-- whether a statement may stand behind what stands before it
abbrev pub may_stand : Standing → Keyword → Bool
may_stand here keyword = if says_more keyword then here.more else stands here.blocks keyword

abbrev closed : Keyword → List Block → List Block
closed word.End (b ∷ bs) = bs
closed _ bs = bs

abbrev opening : Option Block → Keyword → List Block → List Block
opening (Some b) keyword blocks = b ∷ blocks
opening None keyword blocks = closed keyword blocks

-- the blocks that are open after a statement
abbrev pub blocks_after : List Block → Keyword → List Block
blocks_after blocks keyword = opening (opened keyword) keyword blocks

-- what stands before the next statement, after one with a keyword
abbrev pub standing_after : Standing → Keyword → Standing
standing_after here keyword = record {
  blocks = blocks_after here.blocks keyword;
  more = may_be_amended keyword;
}
