-- Document 01, "Slot layouts", from the bytes to the fields: slots as the code holds them.
use Rattle.words.specs.Word.{byte_at}
use Rattle.netif.specs.Slot.{Slot, gref, offset, flags, ident, size, gso_size, gso_type, request_ident, request_gref}
use Rattle.netif.specs.declared.DataSlot.{DataSlot}
use Rattle.netif.specs.declared.Extra.{Extra}
use Rattle.netif.specs.declared.Request.{Request}

-- a data slot
unfoldable pub data_of : Slot → DataSlot
data_of s = record { gref = gref s; offset = offset s; flags = flags s; id = ident s; size = size s }

-- an extra; pad, features and unused bytes are not kept
unfoldable pub extra_of : Slot → Extra
extra_of s = record { kind = byte_at s 0; flags = byte_at s 1; gso_size = gso_size s; gso_type = gso_type s }

-- a receive request
unfoldable pub request_of : Slot → Request
request_of s = record { id = request_ident s; gref = request_gref s }
