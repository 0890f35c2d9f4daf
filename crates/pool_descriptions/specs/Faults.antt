-- The faults of a refused batch, as a text.
use Rattle.std.specs.Prelude.{ℕ, ℤ, List, [], ◌++◌, length, codes}
use Rattle.std.specs.List.{flat_map}
use Rattle.std.specs.Fmt.{decimal}
use Rattle.std.specs.Option.{option_map_or}
use Rattle.std.specs.declared.option.Option.{Option}
use Rattle.pool_faults.specs.declared.label.Label.{Label}
use Rattle.pool_faults.specs.declared.fault.DescriptorErrorKind.{DescriptorErrorKind}
use Rattle.pool_faults.specs.Fault.{path_text, shown_label, labelled_text}
use Rattle.verdict_texts.specs.FaultKinds.{related_label}
use Rattle.verdict_texts.specs.Lines.{line}
use Rattle.pool_descriptions.specs.Words.{name_word}

-- the four numbers of a span, which count from 0, where it is known
abbrev pub span_words : Option (List ℤ) → List ℕ
span_words span = option_map_or (λ s. codes " " ++ path_text s) span []

-- a place behind a word for it: the file, the path and the span
abbrev pub place_line : List ℕ → Label → List ℕ
place_line word label = codes "  " ++ (word ++ (codes " " ++ (name_word label.file ++ (codes " "
    ++ (path_text label.path ++ (span_words label.span ++ codes "\n"))))))

-- the same, where there is a place
abbrev pub label_line : List ℕ → Option Label → List ℕ
label_line word label = option_map_or (place_line word) label []

-- a fault: its text behind the label that it shows, that label in full, and the place of what it
-- cites
abbrev pub fault_lines : DescriptorErrorKind → List ℕ
fault_lines fault = line (labelled_text fault)
    ++ (label_line (codes "at") (shown_label fault)
    ++ label_line (codes "cites") (related_label fault))

-- how many faults there are, and each of them
abbrev pub faults_text : List DescriptorErrorKind → List ℕ
faults_text faults = codes "refused " ++ (decimal (length faults) ++ (codes "\n"
    ++ flat_map fault_lines faults))
