-- What `unseal` gives, as a message.
use Rattle.std.specs.Prelude.{Option, Some, None}
use Rattle.stamp_codec.specs.declared.sealed.Sealed.{Sealed}
use Rattle.stamp_codec.specs.declared.sealed.Sealed.TheVariants as given
use Rattle.stamp_codec.specs.Message.{Message, Text, Ack}

abbrev pub message : Sealed → Message
message (given.Text text stamp) = Text text.now stamp
message (given.Ack stamp) = Ack stamp

abbrev pub option_message : Option Sealed → Option Message
option_message None = None
option_message (Some sealed) = Some (message sealed)
