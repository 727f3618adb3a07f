mod Printed
mod Backwards
