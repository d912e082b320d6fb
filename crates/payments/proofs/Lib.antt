mod Crediting
