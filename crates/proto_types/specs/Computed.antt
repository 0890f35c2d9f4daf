-- All that unfolds when a definition runs on literal records.
use denote.Hole.Carrier.{out, roll, hidden, shown}
use Rattle.proto_types.specs.declared.message.DescriptorProto.{roll-DescriptorProto}
use Rattle.proto_types.specs.declared.message.DescriptorProto.{out-DescriptorProto}
use Rattle.proto_types.specs.declared.message.DescriptorProto.TheBlock.{shape-the_row-DescriptorProto-0}
use Rattle.proto_types.specs.declared.message.DescriptorProto.TheBlock.{hidden-the_row-DescriptorProto-0}
use Rattle.proto_types.specs.declared.message.DescriptorProto.TheBlock.{shown-the_row-DescriptorProto-0}

unfoldable pub literals : Unit {0}
unfolding out-DescriptorProto roll-DescriptorProto out roll hidden shown
    shape-the_row-DescriptorProto-0 hidden-the_row-DescriptorProto-0 shown-the_row-DescriptorProto-0
literals = tt
