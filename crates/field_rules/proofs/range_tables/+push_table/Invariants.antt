use Rattle.field_rules.proofs.range_tables.+push_table.Given as goal

abbrev pub decreases-push_table : goal.decreases-push_table
decreases-push_table l = l.levels
