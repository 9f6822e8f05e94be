-- What the types of a message's fields say of a struct that is handed over.
use denote.Laws.{Is}
use denote.Struct.Declared.{row}
use denote.Struct.Laws.{owed, vals}
use Rattle.messages.specs.declared.Message.{Message}
use Rattle.messages.specs.contracts.Message.{the_type}
use Rattle.messages.proofs.Message.TheLaws.{the_laws}
use Rattle.message_writing.proofs.WriteParts.{Held}

pub held : (m : Message) → Is (row the_type) m (vals the_type the_laws m) → Held m
held m g =
    let n = (owed the_type the_laws m (vals the_type the_laws m) g).1.0 in
    let x = (owed the_type the_laws m (vals the_type the_laws m) g).1.1.0 in
    record {
      agent = n.1.1.1.0.1;
      key = n.1.1.1.1.0.1;
      reference = n.1.1.1.1.1.1.0.1;
      first = n.1.1.1.1.1.1.1.0.1;
      last = n.1.1.1.1.1.1.1.1.0.1;
      from = x.1.1.1.1.0.1;
    }
