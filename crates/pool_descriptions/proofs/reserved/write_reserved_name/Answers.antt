use Rattle.std.proofs.Common.{◌≡◌, ◌++◌, OnOk, string_bytes, codes, subst}
use Rattle.pool_descriptions.specs.Items.{reserved_name_line}
use Rattle.pool_descriptions.proofs.reserved.write_reserved_name.Goals as goal

-- the name as a word
pub returns : goal.returns
unfolding reserved_name_line
returns c =
    subst (λ word. OnOk c.writeln.result (string_bytes c.writeln.new.self ≡ string_bytes c.args.text.now ++ (codes "  reserved_name " ++ (word ++ codes "\n"))))
    c.name_word-word.ensures c.writeln.ensures.bytes
