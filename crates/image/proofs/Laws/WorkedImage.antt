-- The worked image, computed.
use Rattle.std.specs.Prelude.{refl}
use Rattle.wire.specs.Bytes.{be}
use Rattle.wire.specs.Checks.{first}
use Rattle.lookup.specs.Search.{from, lowest}
use Rattle.reassembly.specs.Base.{table}
use Rattle.endpoint.specs.Config.{config_of, fresh, start_checks, start_of, add_peer_checks, with_address, add_peer_of, is_network, add_binding_checks}
use Rattle.endpoint.specs.Config.{with_binding}
use Rattle.endpoint.specs.Config.{add_binding_of}
use Rattle.endpoint.specs.Config.{has_address, find_peer, binds, find_binding, added, added_all, set_up}
use Rattle.image.specs.Image.{version1, rows, peer_row, binding_row, letters, image, binding_at, contents_of, image_of}
use Rattle.image.specs.WorkedImage.{WorkedImage}

pub worked-image : WorkedImage
unfolding be first from lowest table config_of fresh start_checks start_of add_peer_checks with_address add_peer_of is_network add_binding_checks with_binding add_binding_of
    has_address find_peer binds find_binding added added_all set_up version1 rows peer_row binding_row letters image binding_at contents_of image_of
worked-image = record { bytes = refl }
